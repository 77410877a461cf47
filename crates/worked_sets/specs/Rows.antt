-- Worked scenarios of sets with one item, whose queues discard their oldest entry. What each report must be was worked out by
-- hand from the rules of servers and clients.
use Rattle.std.specs.Prelude.{◌≡◌, ℕ, pos, true, List, [], ◌∷◌, codes}
use Rattle.ua_base.specs.declared.modes.SetMode.{SetMode}
use Rattle.ua_base.specs.declared.modes.SetMode.TheVariants.{Hot, Warm, Cold}
use Rattle.set_model.specs.Report.{report_text}
use Rattle.scenario.specs.declared.line.Line.{Line}
use Rattle.scenario.specs.declared.line.Line.TheVariants as line
use Rattle.set_messages.specs.World.{messages_after}

pub record Row : Type 0 where
  pub mode : SetMode
  pub servers : ℕ
  pub queue : ℕ
  pub lines : List Line
  pub report : List ℕ

-- the report of the set over messages, after these lines, is that one
abbrev pub IsAsWorked : Row → Type 0
IsAsWorked row = report_text (messages_after row.mode row.servers 1 row.queue true row.lines).client.hub.log.lines ≡ row.report

-- the item changes at this time to this value
abbrev pub changes : ℕ → ℕ → Line
changes time value = line.Change (record { item = 1; time = pos time; pico = 0; value = pos value })

-- ---- hot

-- a connection is ready after seven rounds
abbrev pub readiness : Row
readiness = record {
  mode = Hot;
  servers = 1;
  queue = 5;
  lines = line.Pass 7 ∷ [];
  report = codes "ready 1\nswitch 0 1\ndone 0\n";
}

-- two changes are delivered
abbrev pub delivery : Row
delivery = record {
  mode = Hot;
  servers = 1;
  queue = 5;
  lines = changes 10 1 ∷ line.Feed 1 1 ∷ line.Pass 10 ∷ line.Tick 100 ∷ line.Pass 2 ∷ changes 20 2 ∷ line.Feed 1 1
      ∷ line.Tick 100 ∷ line.Pass 2 ∷ [];
  report = codes "ready 1\nswitch 0 1\ndata 1 10 1\ndata 1 20 2\ndone 2\n";
}

-- a server stops, and its backup's queue still holds the value that was delivered last
abbrev pub handover : Row
handover = record {
  mode = Hot;
  servers = 2;
  queue = 5;
  lines = changes 10 1 ∷ line.Feed 1 1 ∷ line.Feed 2 1 ∷ line.Pass 10 ∷ line.Tick 100 ∷ line.Pass 2 ∷ changes 20 2
      ∷ changes 30 3 ∷ changes 40 4 ∷ changes 50 5 ∷ line.Feed 2 4 ∷ line.Stop 1 ∷ line.Pass 2 ∷ line.Tick 100 ∷ line.Pass 2 ∷ [];
  report = codes "ready 1\nswitch 0 1\nready 2\ndata 1 10 1\nlost 1\nswitch 1 2\ndata 1 20 2\ndata 1 30 3\ndata 1 40 4\ndata 1 50 5\ndone 5\n";
}

-- or has dropped it: then a value may be missing
abbrev pub late_handover : Row
late_handover = record {
  mode = Hot;
  servers = 2;
  queue = 4;
  lines = changes 10 1 ∷ line.Feed 1 1 ∷ line.Feed 2 1 ∷ line.Pass 10 ∷ line.Tick 100 ∷ line.Pass 2 ∷ changes 20 2
      ∷ changes 30 3 ∷ changes 40 4 ∷ changes 50 5 ∷ line.Feed 2 4 ∷ line.Stop 1 ∷ line.Pass 2 ∷ line.Tick 100 ∷ line.Pass 2 ∷ [];
  report = codes "ready 1\nswitch 0 1\nready 2\ndata 1 10 1\nlost 1\nswitch 1 2\ngap 1 late\ndata 1 20 2\ndata 1 30 3\ndata 1 40 4\ndata 1 50 5\ndone 5\n";
}

-- a message that a cut took is sent once more on the next connection
abbrev pub republishing : Row
republishing = record {
  mode = Hot;
  servers = 1;
  queue = 5;
  lines = changes 10 1 ∷ line.Feed 1 1 ∷ line.Pass 10 ∷ line.Tick 100 ∷ line.Pass 2 ∷ line.Hold 1 ∷ changes 20 2 ∷ line.Feed 1 1
      ∷ line.Tick 100 ∷ line.Cut 1 ∷ line.Free 1 ∷ changes 30 3 ∷ line.Feed 1 1 ∷ line.Tick 1000 ∷ line.Pass 12 ∷ line.Tick 100
      ∷ line.Pass 2 ∷ [];
  report = codes "ready 1\nswitch 0 1\ndata 1 10 1\nlost 1\nswitch 1 0\ndata 1 20 2\nready 1\nswitch 0 1\ndata 1 30 3\ndone 3\n";
}

-- a server restarts, and what changed meanwhile isn't known
abbrev pub restarting : Row
restarting = record {
  mode = Hot;
  servers = 1;
  queue = 5;
  lines = changes 10 1 ∷ line.Feed 1 1 ∷ line.Pass 10 ∷ line.Tick 100 ∷ line.Pass 2 ∷ changes 20 2 ∷ line.Feed 1 1
      ∷ line.Tick 100 ∷ line.Stop 1 ∷ changes 30 3 ∷ line.Start 1 ∷ line.Tick 1000 ∷ line.Pass 9 ∷ line.Tick 100 ∷ line.Pass 1 ∷ [];
  report = codes "ready 1\nswitch 0 1\ndata 1 10 1\nlost 1\nswitch 1 0\nready 1\nswitch 0 1\ngap 1 late\ndata 1 30 3\ndone 2\n";
}

-- ---- cold

-- a server stops, and the client connects to the next one
abbrev pub connecting : Row
connecting = record {
  mode = Cold;
  servers = 2;
  queue = 5;
  lines = changes 10 1 ∷ line.Feed 1 1 ∷ line.Feed 2 1 ∷ line.Pass 10 ∷ line.Tick 100 ∷ line.Pass 2 ∷ line.Stop 1 ∷ changes 20 2
      ∷ line.Feed 2 1 ∷ line.Pass 10 ∷ line.Tick 100 ∷ line.Pass 2 ∷ [];
  report = codes "ready 1\nswitch 0 1\ndata 1 10 1\nlost 1\nswitch 1 0\nready 2\nswitch 0 2\ngap 1 cold\ndata 1 20 2\ndone 2\n";
}

-- ---- warm

-- a level falls, and of two changes the backup's server tells the last
abbrev pub reporting : Row
reporting = record {
  mode = Warm;
  servers = 2;
  queue = 5;
  lines = changes 10 1 ∷ line.Feed 1 1 ∷ line.Feed 2 1 ∷ line.Pass 10 ∷ line.Tick 100 ∷ line.Pass 2 ∷ changes 20 2
      ∷ changes 30 3 ∷ line.Feed 2 2 ∷ line.Level 1 100 ∷ line.Tick 1000 ∷ line.Pass 3 ∷ line.Tick 100 ∷ line.Pass 2 ∷ [];
  report = codes "ready 1\nswitch 0 1\nready 2\ndata 1 10 1\nswitch 1 2\ngap 1 warm\ndata 1 30 3\ndone 2\n";
}

-- a switch there and back, with a message that is sent once more between
abbrev pub there_and_back : Row
there_and_back = record {
  mode = Warm;
  servers = 2;
  queue = 5;
  lines = line.Level 1 240 ∷ line.Level 2 230 ∷ changes 10 1 ∷ line.Feed 1 1 ∷ line.Feed 2 1 ∷ line.Pass 10 ∷ line.Tick 100
      ∷ line.Pass 2 ∷ line.Hold 1 ∷ changes 20 2 ∷ line.Feed 1 1 ∷ line.Tick 100 ∷ line.Level 2 250 ∷ line.Tick 900 ∷ line.Pass 2
      ∷ line.Half 1 ∷ line.Free 1 ∷ changes 30 3 ∷ changes 40 4 ∷ line.Feed 1 2 ∷ line.Level 2 100 ∷ line.Tick 1000 ∷ line.Pass 12
      ∷ line.Tick 100 ∷ line.Pass 2 ∷ [];
  report = codes "ready 1\nswitch 0 1\nready 2\ndata 1 10 1\nswitch 1 2\nlost 1\ngap 1 warm\ndata 1 20 2\nready 1\nswitch 2 1\ngap 1 warm\ndata 1 40 4\ndone 3\n";
}

abbrev pub rows : List Row
rows = readiness ∷ delivery ∷ handover ∷ late_handover ∷ republishing ∷ restarting ∷ connecting ∷ reporting ∷ there_and_back ∷ []

-- A connection that is deaf, or whose end awaits a number, is so after other events.
use Rattle.std.proofs.Common.{◌≡◌, ◌≢◌, ℕ, Bool, true, false, cond, List, is_some, Option, Some, None, ap, inl, inr}
use Rattle.ua_channel.specs.State.{ChannelState, is_deaf}
use Rattle.ua_channel.specs.Sharing.{end_at, own, taken_by}
use Rattle.message_ends.specs.Ends.{MessageEnd, obeyed_by}
use Rattle.message_ends.specs.Talk.{Talk}
use Rattle.server_rules.specs.State.{ServerState}
use Rattle.server_rules.specs.Said.{orders_of}
use Rattle.server_rules.specs.Connecting.{is_above}
use Rattle.server_rules.specs.Step.{Closes, Happening, Hears, Opens, after, ears}
use Rattle.server_keeps.specs.Lawful.{OpensOther}
use Rattle.ua_server.specs.State.{BytesState, without_out as bytes_without_out}
use Rattle.ua_server.specs.Step.{apart, closed_bytes, end_closed, end_opened, ends_of, opened_bytes, put_ends, rest_answer, rest_ears, taken, with_ends as bytes_with_ends}
use Rattle.server_messages.specs.Messages.{with_ends}
use Rattle.server_messages.specs.Showing.{Awaits}
use Rattle.server_messages.proofs.Deafness.{stays_deaf}
use Rattle.server_messages.proofs.Events.{closed_other, happened_awaits, opened_other}
use Rattle.server_messages.proofs.Holding.{bytes_hold}
use Rattle.server_messages.proofs.Taking.{bytes_other, emptied_other}

-- ---- whatever happens

pub happened_stays : (happening : Happening) (conn next : ℕ) (r : BytesState) → OpensOther conn happening → Awaits conn next r
    → Awaits conn next (bytes_with_ends r.channels (after happening r.hub))
happened_stays happening conn next r other (inl deaf) = inl (stays_deaf conn happening r.hub other deaf)
happened_stays happening conn next r other (inr x) = inr (happened_awaits happening conn next r x)

-- ---- connections

opened_deaf : (b : Bool) (conn other : ℕ) (r : BytesState) → other ≢ conn → is_deaf (ears other r.hub) ≡ true
    → is_deaf (ears other (cond b (bytes_with_ends (end_opened conn r.channels) (after (Opens conn) r.hub)) r).hub) ≡ true
opened_deaf true conn other r differ deaf = stays_deaf other (Opens conn) r.hub (λ same. differ (back conn other same)) deaf
  where
    back : (a b : ℕ) → a ≡ b → b ≡ a
    back a b same = cc
opened_deaf false conn other r differ deaf = deaf

pub opened_stays : (conn other next : ℕ) (r : BytesState) → other ≢ conn → Awaits other next r → Awaits other next (opened_bytes conn r)
opened_stays conn other next r differ (inl deaf) = inl (opened_deaf (is_above r.hub.highest conn) conn other r differ deaf)
opened_stays conn other next r differ (inr x) = inr (opened_other conn other next r differ x)

closed_deaf : (b : Bool) (conn other : ℕ) (r : BytesState) → is_deaf (ears other r.hub) ≡ true
    → is_deaf (ears other (cond b (bytes_with_ends (end_closed conn r.channels) (after (Closes conn) r.hub)) r).hub) ≡ true
closed_deaf true conn other r deaf = stays_deaf other (Closes conn) r.hub tt deaf
closed_deaf false conn other r deaf = deaf

pub closed_stays : (conn other next : ℕ) (r : BytesState) → other ≢ conn → Awaits other next r → Awaits other next (closed_bytes conn r)
closed_stays conn other next r differ (inl deaf) = inl (closed_deaf (is_some (end_at conn r.channels)) conn other r deaf)
closed_stays conn other next r differ (inr x) = inr (closed_other conn other next r differ x)

-- ---- bytes

taken_deaf : (found : Option ChannelState) (conn other : ℕ) (bytes : List ℕ) (r : BytesState) → is_deaf (ears other r.hub) ≡ true
    → is_deaf (ears other (taken_by (rest_ears conn) (rest_answer conn) ends_of put_ends found conn bytes r).hub) ≡ true
taken_deaf None conn other bytes r deaf = deaf
taken_deaf (Some c) conn other bytes r deaf =
    bytes_hold (rest_ears conn) (rest_answer conn) (λ (core : BytesState). is_deaf (ears other core.hub) ≡ true)
    (λ h core before. stays_deaf other (Hears conn h) core.hub tt before) bytes (apart conn c r) deaf

bytes_deaf : (conn other : ℕ) (bytes : List ℕ) (r : BytesState) → is_deaf (ears other r.hub) ≡ true → is_deaf (ears other (taken conn bytes r).hub) ≡ true
unfolding taken
bytes_deaf conn other bytes r deaf = taken_deaf (end_at conn r.channels) conn other bytes r deaf

pub bytes_stays : (conn other next : ℕ) (bytes : List ℕ) (r : BytesState) → other ≢ conn → Awaits other next r → Awaits other next (taken conn bytes r)
bytes_stays conn other next bytes r differ (inl deaf) = inl (bytes_deaf conn other bytes r deaf)
bytes_stays conn other next bytes r differ (inr x) = inr (bytes_other conn other next bytes r differ x)

pub emptied_stays : (conn other next : ℕ) (r : BytesState) → Awaits other next r → Awaits other next (bytes_without_out conn r)
emptied_stays conn other next r (inl deaf) = inl deaf
emptied_stays conn other next r (inr x) = inr (emptied_other conn other next r x)

-- ---- and over messages no end comes by itself

pub none_stays : (happening : Happening) (conn : ℕ) (t : Talk ServerState) → t.ends conn ≡ None
    → (with_ends t.ends (after happening t.hub)).ends conn ≡ None
none_stays happening conn t none = ap (λ (e : Option MessageEnd). obeyed_by (own conn (orders_of (after happening t.hub).said)) e) none

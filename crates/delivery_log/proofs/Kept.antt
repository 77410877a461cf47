-- What the log keeps is what its history says.
use Rattle.std.proofs.Common.{◌≡◌, ◌==◌, ◌&&◌, ℕ, ◌-◌, ◌<◌, ◌≤◌, ◌≢◌, ◌⊎◌, inl, inr, List, [], ◌∷◌, ◌++◌, length, Bool, true, false, cond, Option, None, map, replicate, slice_index_or, slice_set, refl, sym, ◌∙◌, ap, arith, length-set}
use Rattle.std.proofs.lemmas.Bool.{cases_eq}
use Rattle.std.proofs.lemmas.Bool.Decides.{nat_tests}
use Rattle.std.proofs.lemmas.Grind.{get_or-set_at}
use Rattle.std.proofs.lemmas.List.{append-nil, get_or-map, length-map, get_or-set_other, get_or-replicate, length-replicate}
use Rattle.set_model.specs.declared.line.Arrived.{Arrived}
use Rattle.set_model.specs.declared.line.GapCause.TheVariants.{Late}
use Rattle.set_model.specs.declared.line.LogLine.{LogLine}
use Rattle.set_model.specs.declared.stamp.Stamp.{Stamp}
use Rattle.delivery_log.specs.declared.rule.Joint.{Joint}
use Rattle.delivery_log.specs.declared.rule.Joint.TheVariants.{Open}
use Rattle.delivery_log.specs.declared.rule.Turn.{Turn}
use Rattle.delivery_log.specs.Judge.{joint_after, later, turned}
use Rattle.delivery_log.specs.State.{LogState}
use Rattle.delivery_log.specs.Rows.{HaveWidth}
use Rattle.delivery_log.specs.Log.{Covers, IsServerWithin, IsWithin, with_turned, with_all_turned, entered, entry_lines, joint_at, last_kept, new_log, noted, with_joint}
use Rattle.delivery_log.specs.History.{Act, Enter, Set, TurnOne, TurnAll, Note, joint_of, last_stamp, lines_of, acted, log_of, IsActWithin, AreWithin, StandsFor}

-- one element of a list is written
set_test : {X : Type 0} (xs : List X) (i j : ℕ) (x d : X) → i - 1 < length xs → 1 ≤ i → 1 ≤ j → (b : Bool) → (i == j) ≡ b
    → slice_index_or (slice_set xs (i - 1) x) (j - 1) d ≡ cond b x (slice_index_or xs (j - 1) d)
set_test xs i j x d within i_from j_from true e =
    let is : j - 1 ≡ i - 1 = grind (arith, nat_tests) in
    get_or-set_at xs (i - 1) (j - 1) x d is within
set_test xs i j x d within i_from j_from false e =
    let differs : i ≢ j = grind (arith, nat_tests) in
    let apart : j - 1 ≢ i - 1 = λ k. differs (omega arith) in
    get_or-set_other xs (i - 1) (j - 1) x d apart

-- one joint is written: rows first, then items
joint_set : (joints : List (List Joint)) (servers items s i server item : ℕ) (joint d : Joint) → length joints ≡ servers → HaveWidth items joints → IsWithin servers items s i → IsWithin servers items server item
    → (b c : Bool) → (s == server) ≡ b → (i == item) ≡ c
    → slice_index_or (slice_index_or (slice_set joints (s - 1) (slice_set (slice_index_or joints (s - 1) []) (i - 1) joint)) (server - 1) []) (item - 1) d
    ≡ cond (b && c) joint (slice_index_or (slice_index_or joints (server - 1) []) (item - 1) d)
joint_set joints servers items s i server item joint d long wide w v true c e f =
    let wide_here : length (slice_index_or joints (s - 1) []) ≡ items = wide.each (s - 1) (omega arith) in
    let is : s ≡ server = grind (arith, nat_tests) in
    ap (λ row. slice_index_or row (item - 1) d) (set_test joints s server (slice_set (slice_index_or joints (s - 1) []) (i - 1) joint) [] (omega arith) w.server_from v.server_from true e)
    ∙ set_test (slice_index_or joints (s - 1) []) i item joint d (omega arith) w.item_from v.item_from c f
    ∙ ap (λ n. cond c joint (slice_index_or (slice_index_or joints (n - 1) []) (item - 1) d)) is
joint_set joints servers items s i server item joint d long wide w v false c e f =
    ap (λ row. slice_index_or row (item - 1) d) (set_test joints s server (slice_set (slice_index_or joints (s - 1) []) (i - 1) joint) [] (omega arith) w.server_from v.server_from false e)

width_cases : (joints : List (List Joint)) (place at : ℕ) (row : List Joint) (width : ℕ) → HaveWidth width joints → length row ≡ width → place < length joints
    → (place ≡ at) ⊎ (place ≡ at → ⊥) → length (slice_index_or (slice_set joints at row) place []) ≡ width
width_cases joints place at row width wide w less (inl is) = ap length (get_or-set_at joints at place row [] is (omega arith)) ∙ w
width_cases joints place at row width wide w less (inr apart) = ap length (get_or-set_other joints at place row [] apart) ∙ wide.each place less

-- the table keeps its width
width_set : (joints : List (List Joint)) (at : ℕ) (row : List Joint) (width : ℕ) → HaveWidth width joints → length row ≡ width → HaveWidth width (slice_set joints at row)
width_set joints at row width wide w = record {
  each = λ place less. width_cases joints place at row width wide w (let is : length (slice_set joints at row) ≡ length joints = length-set joints at row in omega arith) (cases_eq place at);
}

-- the log stands for its history, and has the sizes that it began with
pub record Keeps (servers items : ℕ) (history : List Act) (log : LogState) : Type 0 where
  pub stands : StandsFor servers items history log
  pub servers_are : length log.joints ≡ servers
  pub items_are : length log.lasts ≡ items
  pub width : HaveWidth items log.joints

-- the joints of a log in which one is set
joint_is : (servers items : ℕ) (log : LogState) (s i server item : ℕ) (joint : Joint) → length log.joints ≡ servers → HaveWidth items log.joints → IsWithin servers items s i → IsWithin servers items server item
    → joint_at server item (with_joint s i joint log) ≡ cond ((s == server) && (i == item)) joint (joint_at server item log)
joint_is servers items log s i server item joint long wide w v = joint_set log.joints servers items s i server item joint (Open Late) long wide w v (s == server) (i == item) refl refl

-- the stamp last delivered of a list in which one is set
last_is : (lasts : List (Option Stamp)) (items i item : ℕ) (last : Option Stamp) → length lasts ≡ items → 1 ≤ i → i ≤ items → 1 ≤ item
    → slice_index_or (slice_set lasts (i - 1) last) (item - 1) None ≡ cond (i == item) last (slice_index_or lasts (item - 1) None)
last_is lasts items i item last long i_from i_to item_from = set_test lasts i item last None (omega arith) i_from item_from (i == item) refl

row_width : (servers items : ℕ) (log : LogState) (s i : ℕ) (joint : Joint) → length log.joints ≡ servers → HaveWidth items log.joints → IsWithin servers items s i
    → HaveWidth items (with_joint s i joint log).joints
row_width servers items log s i joint long wide w =
    let row : List Joint = slice_index_or log.joints (s - 1) [] in
    width_set log.joints (s - 1) (slice_set row (i - 1) joint) items wide (length-set row (i - 1) joint ∙ wide.each (s - 1) (omega arith))

keeps_set : (servers items : ℕ) (earlier : List Act) (log : LogState) (s i : ℕ) (joint : Joint) → IsWithin servers items s i → Keeps servers items earlier log
    → Keeps servers items (Set s i joint ∷ earlier) (with_joint s i joint log)
keeps_set servers items earlier log s i joint w k = record {
  stands = record {
    lines = k.stands.lines ∙ sym (append-nil (lines_of earlier));
    joints = λ server item v.
        joint_is servers items log s i server item joint k.servers_are k.width w v
        ∙ ap (cond ((s == server) && (i == item)) joint) (k.stands.joints server item v);
    lasts = k.stands.lasts;
  };
  servers_are = length-set log.joints (s - 1) _ ∙ k.servers_are;
  items_are = k.items_are;
  width = row_width servers items log s i joint k.servers_are k.width w;
}

keeps_note : (servers items : ℕ) (earlier : List Act) (log : LogState) (line : LogLine) → Keeps servers items earlier log
    → Keeps servers items (Note line ∷ earlier) (noted line log)
keeps_note servers items earlier log line k = record {
  stands = record { lines = ap (λ lines. lines ++ line ∷ []) k.stands.lines; joints = k.stands.joints; lasts = k.stands.lasts };
  servers_are = k.servers_are;
  items_are = k.items_are;
  width = k.width;
}

turned_joint : (earlier : List Act) (does : Joint → Joint) (s i server item : ℕ) (here other : Joint) → here ≡ joint_of s i earlier → other ≡ joint_of server item earlier
    → (b c : Bool) → (s == server) ≡ b → (i == item) ≡ c
    → cond (b && c) (does here) other ≡ cond (b && c) (does (joint_of server item earlier)) (joint_of server item earlier)
turned_joint earlier does s i server item here other h o true true e f =
    let s_is : s ≡ server = grind (arith, nat_tests) in
    let i_is : i ≡ item = grind (arith, nat_tests) in
    ap does (h ∙ ap (λ n. joint_of n i earlier) s_is ∙ ap (λ n. joint_of server n earlier) i_is)
turned_joint earlier does s i server item here other h o true false e f = o
turned_joint earlier does s i server item here other h o false c e f = o

entered_last : (earlier : List Act) (entry : Arrived) (i item : ℕ) (here other : Option Stamp) → here ≡ last_stamp i earlier → other ≡ last_stamp item earlier
    → (c : Bool) → (i == item) ≡ c
    → cond c (later here entry.time) other ≡ cond c (later (last_stamp item earlier) entry.time) (last_stamp item earlier)
entered_last earlier entry i item here other h o true f =
    let is : i ≡ item = grind (arith, nat_tests) in
    ap (λ l. later l entry.time) (h ∙ ap (λ n. last_stamp n earlier) is)
entered_last earlier entry i item here other h o false f = o

keeps_turn : (servers items : ℕ) (earlier : List Act) (log : LogState) (s i : ℕ) (turn : Turn) → IsWithin servers items s i → Keeps servers items earlier log
    → Keeps servers items (TurnOne s i turn ∷ earlier) (with_turned s i turn log)
keeps_turn servers items earlier log s i turn w k =
    let here : joint_at s i log ≡ joint_of s i earlier = k.stands.joints s i w in
    record {
      stands = record {
        lines = k.stands.lines ∙ sym (append-nil (lines_of earlier));
        joints = λ server item v.
            joint_is servers items log s i server item (turned turn (joint_at s i log)) k.servers_are k.width w v
            ∙ turned_joint earlier (turned turn) s i server item (joint_at s i log) (joint_at server item log) here (k.stands.joints server item v) (s == server) (i == item) refl refl;
        lasts = k.stands.lasts;
      };
      servers_are = length-set log.joints (s - 1) _ ∙ k.servers_are;
      items_are = k.items_are;
      width = row_width servers items log s i (turned turn (joint_at s i log)) k.servers_are k.width w;
    }

-- all joints of a server are turned
row_turned : (joints : List (List Joint)) (servers items s server item : ℕ) (f : Joint → Joint) (d : Joint) → length joints ≡ servers → HaveWidth items joints → IsServerWithin servers s → IsWithin servers items server item
    → (b : Bool) → (s == server) ≡ b
    → slice_index_or (slice_index_or (slice_set joints (s - 1) (map f (slice_index_or joints (s - 1) []))) (server - 1) []) (item - 1) d
    ≡ cond b (f (slice_index_or (slice_index_or joints (server - 1) []) (item - 1) d)) (slice_index_or (slice_index_or joints (server - 1) []) (item - 1) d)
row_turned joints servers items s server item f d long wide w v true e =
    let wide_here : length (slice_index_or joints (s - 1) []) ≡ items = wide.each (s - 1) (omega arith) in
    let is : s ≡ server = grind (arith, nat_tests) in
    ap (λ row. slice_index_or row (item - 1) d) (set_test joints s server (map f (slice_index_or joints (s - 1) [])) [] (omega arith) w.server_from v.server_from true e)
    ∙ get_or-map f (slice_index_or joints (s - 1) []) (item - 1) d d (omega arith)
    ∙ ap (λ n. f (slice_index_or (slice_index_or joints (n - 1) []) (item - 1) d)) is
row_turned joints servers items s server item f d long wide w v false e =
    ap (λ row. slice_index_or row (item - 1) d) (set_test joints s server (map f (slice_index_or joints (s - 1) [])) [] (omega arith) w.server_from v.server_from false e)

keeps_turn_all : (servers items : ℕ) (earlier : List Act) (log : LogState) (s : ℕ) (turn : Turn) → IsServerWithin servers s → Keeps servers items earlier log
    → Keeps servers items (TurnAll s turn ∷ earlier) (with_all_turned s turn log)
keeps_turn_all servers items earlier log s turn w k =
    let row : List Joint = slice_index_or log.joints (s - 1) [] in
    record {
      stands = record {
        lines = k.stands.lines ∙ sym (append-nil (lines_of earlier));
        joints = λ server item v.
            row_turned log.joints servers items s server item (turned turn) (Open Late) k.servers_are k.width w v (s == server) refl
            ∙ ap (λ j. cond (s == server) (turned turn j) j) (k.stands.joints server item v);
        lasts = k.stands.lasts;
      };
      servers_are = length-set log.joints (s - 1) _ ∙ k.servers_are;
      items_are = k.items_are;
      width = width_set log.joints (s - 1) (map (turned turn) row) items k.width (length-map row (turned turn) ∙ k.width.each (s - 1) (let long : length log.joints ≡ servers = k.servers_are in omega arith));
    }

keeps_enter : (servers items : ℕ) (earlier : List Act) (log : LogState) (s i : ℕ) (entry : Arrived) → IsWithin servers items s i → Keeps servers items earlier log
    → Keeps servers items (Enter s i entry ∷ earlier) (entered s i entry log)
keeps_enter servers items earlier log s i entry w k =
    let here : joint_at s i log ≡ joint_of s i earlier = k.stands.joints s i w in
    let last : last_kept i log ≡ last_stamp i earlier = k.stands.lasts i w.item_from w.item_to in
    record {
      stands = record {
        lines =
            ap (λ lines. lines ++ entry_lines i entry (last_kept i log) (joint_at s i log)) k.stands.lines
            ∙ ap (λ o. lines_of earlier ++ entry_lines i entry o (joint_at s i log)) last
            ∙ ap (λ j. lines_of earlier ++ entry_lines i entry (last_stamp i earlier) j) here;
        joints = λ server item v.
            joint_is servers items log s i server item (joint_after entry.time (joint_at s i log)) k.servers_are k.width w v
            ∙ turned_joint earlier (joint_after entry.time) s i server item (joint_at s i log) (joint_at server item log) here (k.stands.joints server item v) (s == server) (i == item) refl refl;
        lasts = λ item from to.
            last_is log.lasts items i item (later (last_kept i log) entry.time) k.items_are w.item_from w.item_to from
            ∙ entered_last earlier entry i item (last_kept i log) (last_kept item log) last (k.stands.lasts item from to) (i == item) refl;
      };
      servers_are = length-set log.joints (s - 1) _ ∙ k.servers_are;
      items_are = length-set log.lasts (i - 1) _ ∙ k.items_are;
      width = row_width servers items log s i (joint_after entry.time (joint_at s i log)) k.servers_are k.width w;
    }

-- the log before anything came
keeps_new : (servers items : ℕ) → Keeps servers items [] (new_log servers items)
keeps_new servers items = record {
  stands = record {
    lines = refl;
    joints = λ server item v.
        ap (λ row. slice_index_or row (item - 1) (Open Late)) (get_or-replicate servers (server - 1) (replicate items (Open Late)) [] (omega arith))
        ∙ get_or-replicate items (item - 1) (Open Late) (Open Late) (omega arith);
    lasts = λ item from to. get_or-replicate items (item - 1) None None (omega arith);
  };
  servers_are = length-replicate servers _;
  items_are = length-replicate items None;
  width = record {
    each = λ place less.
        let long : length (replicate servers (replicate items (Open Late))) ≡ servers = length-replicate servers _ in
        ap length (get_or-replicate servers place (replicate items (Open Late)) [] (omega arith)) ∙ length-replicate items (Open Late);
  };
}

keeps_act : (servers items : ℕ) (act : Act) (earlier : List Act) (log : LogState) → IsActWithin servers items act → Keeps servers items earlier log
    → Keeps servers items (act ∷ earlier) (acted act log)
keeps_act servers items (Enter s i entry) earlier log w k = keeps_enter servers items earlier log s i entry w k
keeps_act servers items (Set s i joint) earlier log w k = keeps_set servers items earlier log s i joint w k
keeps_act servers items (TurnOne s i turn) earlier log w k = keeps_turn servers items earlier log s i turn w k
keeps_act servers items (TurnAll s turn) earlier log w k = keeps_turn_all servers items earlier log s turn w k
keeps_act servers items (Note line) earlier log w k = keeps_note servers items earlier log line k

pub keeps_of : (servers items : ℕ) (history : List Act) → AreWithin servers items history → Keeps servers items history (log_of servers items history)
keeps_of servers items [] w = keeps_new servers items
keeps_of servers items (act ∷ earlier) w = keeps_act servers items act earlier (log_of servers items earlier) w.0 (keeps_of servers items earlier w.1)

-- THE LOG STANDS FOR ITS HISTORY
pub log_stands : (servers items : ℕ) (history : List Act) → AreWithin servers items history → StandsFor servers items history (log_of servers items history)
log_stands servers items history w =
    let k : Keeps servers items history (log_of servers items history) = keeps_of servers items history w in
    k.stands

-- the log that is kept is one of all its servers and items
pub covers_kept : (servers items : ℕ) (history : List Act) (server item : ℕ) → AreWithin servers items history → IsWithin servers items server item
    → Covers server item (log_of servers items history)
covers_kept servers items history server item w v =
    let k : Keeps servers items history (log_of servers items history) = keeps_of servers items history w in
    let servers_are : length (log_of servers items history).joints ≡ servers = k.servers_are in
    let items_are : length (log_of servers items history).lasts ≡ items = k.items_are in
    record { server_from = v.server_from; server_to = omega arith; item_from = v.item_from; item_to = omega arith }

-- no call changes the servers and items of a log
covers_sizes : (server item : ℕ) (log other : LogState) → length other.joints ≡ length log.joints → length other.lasts ≡ length log.lasts → Covers server item log → Covers server item other
covers_sizes server item log other j l c = record { server_from = c.server_from; server_to = omega arith; item_from = c.item_from; item_to = omega arith }

pub covers-with_joint : (server item s i : ℕ) (joint : Joint) (log : LogState) → Covers server item log → Covers server item (with_joint s i joint log)
covers-with_joint server item s i joint log c = covers_sizes server item log (with_joint s i joint log) (length-set log.joints (s - 1) _) refl c

pub covers-with_turned : (server item s i : ℕ) (turn : Turn) (log : LogState) → Covers server item log → Covers server item (with_turned s i turn log)
covers-with_turned server item s i turn log c = covers_sizes server item log (with_turned s i turn log) (length-set log.joints (s - 1) _) refl c

pub covers-with_all_turned : (server item s : ℕ) (turn : Turn) (log : LogState) → Covers server item log → Covers server item (with_all_turned s turn log)
covers-with_all_turned server item s turn log c = covers_sizes server item log (with_all_turned s turn log) (length-set log.joints (s - 1) _) refl c

pub covers-entered : (server item s i : ℕ) (entry : Arrived) (log : LogState) → Covers server item log → Covers server item (entered s i entry log)
covers-entered server item s i entry log c = covers_sizes server item log (entered s i entry log) (length-set log.joints (s - 1) _) (length-set log.lasts (i - 1) _) c

pub covers-noted : (server item : ℕ) (line : LogLine) (log : LogState) → Covers server item log → Covers server item (noted line log)
covers-noted server item line log c = covers_sizes server item log (noted line log) refl refl c

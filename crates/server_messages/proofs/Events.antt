-- What an event of a server over bytes makes of it, one over messages shows.
use Rattle.std.proofs.Common.{◌≡◌, ◌≢◌, ℕ, ◌==◌, ◌<◌, ◌^◌, Bool, true, false, cond, List, [], is_some, Option, Some, None, refl, sym, ap, subst, ◌∙◌, arith}
use Rattle.std.proofs.lemmas.Bool.Decides.{nat_tests}
use Rattle.std.specs.Ordering.{nat_cmp}
use Rattle.std.specs.BTreeMap.{insert_entry}
use Rattle.std.specs.Map.{keys_of}
use Rattle.set_model.specs.declared.source.Change.{Change}
use Rattle.ua_chunks.specs.Sending.{IsSending, Sending, limit_of}
use Rattle.ua_channel.specs.declared.side.Side.TheVariants as sides
use Rattle.ua_channel.specs.State.{ChannelState, first_sending, new_channel}
use Rattle.ua_channel.specs.Arriving.{Expects, after_orders}
use Rattle.ua_channel.specs.Sharing.{Ends, end_at}
use Rattle.message_ends.specs.Ends.{MessageEnd, MessageEnds, new_end, obeyed_by, out_by, set_end}
use Rattle.message_ends.specs.Talk.{Talk}
use Rattle.message_ends.specs.Showing.{AllBring, EndShows, ExpectsIn, LimitIn, ShowsEnd, Stands, firsts_with}
use Rattle.message_ends.proofs.Lookups.{number_is, same_number}
use Rattle.message_ends.proofs.Ordering.{expects_each, ordered}
use Rattle.server_rules.specs.declared.config.ServerConfig.{ServerConfig}
use Rattle.server_rules.specs.State.{ServerState, conn_at, new_server}
use Rattle.server_rules.specs.Said.{Did, nothing, orders_of}
use Rattle.server_rules.specs.Connecting.{is_above, opened as conn_opened, with_new_conn}
use Rattle.server_rules.specs.Step.{Closes, Feeds, Happening, Levels, Opens, Ticks, after}
use Rattle.server_keeps.specs.Fitting.{FitsChange, FitsHappening, FitsServer}
use Rattle.server_keeps.specs.Lawful.{HasLimit, OpensOther, orders_for}
use Rattle.server_laws.specs.Numbers.{RiseTo}
use Rattle.ua_server.specs.State.{BytesState, new_bytes}
use Rattle.ua_server.specs.Step.{closed_bytes, end_closed as bytes_end_closed, end_opened as bytes_end_opened, opened_bytes, with_ends as bytes_with_ends}
use Rattle.server_ends.specs.Matching.{Matches}
use Rattle.server_messages.specs.Fitting.{Brings}
use Rattle.server_messages.specs.Messages.{closed, end_closed, end_opened, fed, leveled, new_talk, opened, ticked, with_ends}
use Rattle.server_messages.proofs.Ends.{inserted_at, none_there, removed_apart, removed_gone}
use Rattle.server_messages.proofs.Rules.{Rules, brings, keeps, lawful}

-- a server that stands so, with these ends
abbrev pub Standing : (ℕ → ℕ) → BytesState → Talk ServerState → Type 0
Standing firsts r t = Stands FitsServer HasLimit Brings firsts r t

-- ---- whatever happens, but that a connection is opened

happened : Rules → (firsts : ℕ → ℕ) (happening : Happening) (r : BytesState) (t : Talk ServerState) → FitsHappening happening
    → ((number : ℕ) → OpensOther number happening) → Standing firsts r t
    → Standing firsts (bytes_with_ends r.channels (after happening r.hub)) (with_ends t.ends (after happening t.hub))
happened law firsts happening r t fits other s =
    subst (λ (x : ServerState). Standing firsts (bytes_with_ends r.channels (after happening r.hub)) (with_ends t.ends (after happening x))) s.shows.hub
    (ordered FitsServer HasLimit Brings firsts (orders_of (after happening r.hub).said) (after happening r.hub).state r t
    (λ number. lawful law number happening r.hub s.keeps fits (other number))
    (keeps law happening r.hub s.keeps fits) (brings law happening r.hub s.keeps fits) s)

pub shows_fed : Rules → (firsts : ℕ → ℕ) (change : Change) (r : BytesState) (t : Talk ServerState) → FitsChange change
    → Standing firsts r t → Standing firsts (bytes_with_ends r.channels (after (Feeds change) r.hub)) (fed change t)
shows_fed law firsts change r t fits s = happened law firsts (Feeds change) r t fits (λ number. tt) s

pub shows_ticked : Rules → (firsts : ℕ → ℕ) (ms : ℕ) (r : BytesState) (t : Talk ServerState)
    → Standing firsts r t → Standing firsts (bytes_with_ends r.channels (after (Ticks ms) r.hub)) (ticked ms t)
shows_ticked law firsts ms r t s = happened law firsts (Ticks ms) r t tt (λ number. tt) s

pub shows_leveled : Rules → (firsts : ℕ → ℕ) (level : ℕ) (r : BytesState) (t : Talk ServerState) → level < 2 ^ 8
    → Standing firsts r t → Standing firsts (bytes_with_ends r.channels (after (Levels level) r.hub)) (leveled level t)
shows_leveled law firsts level r t fits s = happened law firsts (Levels level) r t fits (λ number. tt) s

-- ---- a connection is closed

pub both_there : (first : ℕ) (end : Option ChannelState) (e : Option MessageEnd) → ShowsEnd first end e → is_some end ≡ is_some e
both_there first None None s = refl
both_there first None (Some e) s = absurd s
both_there first (Some c) None s = absurd s
both_there first (Some c) (Some e) s = refl

closed_shows : (b : Bool) (first : ℕ) (end : Option ChannelState) (e : Option MessageEnd) → ShowsEnd first end e
    → ShowsEnd first (cond b None end) (cond b None e)
closed_shows true first end e s = tt
closed_shows false first end e s = s

closed_limit : (b : Bool) (end : Option ChannelState) (k : ℕ) (hub : ServerState) → LimitIn HasLimit end k hub → LimitIn HasLimit (cond b None end) k hub
closed_limit true end k hub h = tt
closed_limit false end k hub h = h

closed_brings : (b : Bool) (e : Option MessageEnd) → AllBring Brings (out_by e) → AllBring Brings (out_by (cond b None e))
closed_brings true e all = tt
closed_brings false e all = all

closed_at : (b : Bool) (highest : Option ℕ) (conn k : ℕ) (ends : Ends) → (k == conn) ≡ b → RiseTo highest (keys_of ends)
    → end_at k (bytes_end_closed conn ends) ≡ cond b None (end_at k ends)
closed_at true highest conn k ends is rise =
    subst (λ (n : ℕ). end_at n (bytes_end_closed conn ends) ≡ None) (sym (number_is k conn is)) (removed_gone highest conn ends rise)
closed_at false highest conn k ends is rise = removed_apart conn k ends is

closed_ends : (firsts : ℕ → ℕ) (highest : Option ℕ) (conn : ℕ) (r : BytesState) (t : Talk ServerState) → RiseTo highest (keys_of r.channels)
    → Standing firsts r t
    → Standing firsts (record r { channels = bytes_end_closed conn r.channels }) (record t { ends = end_closed conn t.ends })
closed_ends firsts highest conn r t rise s =
    let at = λ (k : ℕ). sym (closed_at (k == conn) highest conn k r.channels refl rise) in
    record {
      shows = record {
        hub = s.shows.hub;
        ends = λ k. subst (λ (x : Option ChannelState). ShowsEnd (firsts k) x (end_closed conn t.ends k)) (at k)
            (closed_shows (k == conn) (firsts k) (end_at k r.channels) (t.ends k) (s.shows.ends k));
      };
      keeps = s.keeps;
      limits = λ k. subst (λ (x : Option ChannelState). LimitIn HasLimit x k r.hub) (at k)
          (closed_limit (k == conn) (end_at k r.channels) k r.hub (s.limits k));
      brings = λ k. closed_brings (k == conn) (t.ends k) (s.brings k);
    }

closed_by : Rules → (b : Bool) (firsts : ℕ → ℕ) (highest : Option ℕ) (conn : ℕ) (r : BytesState) (t : Talk ServerState)
    → RiseTo highest (keys_of r.channels) → Standing firsts r t
    → Standing firsts (cond b (bytes_with_ends (bytes_end_closed conn r.channels) (after (Closes conn) r.hub)) r)
    (cond b (with_ends (end_closed conn t.ends) (after (Closes conn) t.hub)) t)
closed_by law true firsts highest conn r t rise s =
    happened law firsts (Closes conn) (record r { channels = bytes_end_closed conn r.channels }) (record t { ends = end_closed conn t.ends }) tt (λ number. tt)
    (closed_ends firsts highest conn r t rise s)
closed_by law false firsts highest conn r t rise s = s

rises : (r : BytesState) → Matches r → RiseTo r.hub.highest (keys_of r.channels)
rises r m = subst (RiseTo r.hub.highest) (sym m.same) m.rise

pub shows_closed : Rules → (firsts : ℕ → ℕ) (conn : ℕ) (r : BytesState) (t : Talk ServerState) → Matches r → Standing firsts r t
    → Standing firsts (closed_bytes conn r) (closed conn t)
shows_closed law firsts conn r t m s =
    subst (λ b. Standing firsts (closed_bytes conn r) (cond b (with_ends (end_closed conn t.ends) (after (Closes conn) t.hub)) t))
    (both_there (firsts conn) (end_at conn r.channels) (t.ends conn) (s.shows.ends conn))
    (closed_by law (is_some (end_at conn r.channels)) firsts r.hub.highest conn r t (rises r m) s)

-- ---- a connection is opened

first_sends : IsSending first_sending
first_sends = record { channel = omega arith; token = omega arith; least = omega arith; most = omega arith; next = omega arith }

new_shows : EndShows 1 (new_channel sides.Server) new_end
new_shows = record {
  tokens = refl;
  sending = first_sends;
  sent = [];
  wires = refl;
  bytes = refl;
  chain = refl;
}

opened_shows : (b : Bool) (first : ℕ) (end : Option ChannelState) (e : Option MessageEnd) → ShowsEnd first end e
    → ShowsEnd (cond b 1 first) (cond b (Some (new_channel sides.Server)) end) (cond b (Some new_end) e)
opened_shows true first end e s = new_shows
opened_shows false first end e s = s

opened_brings : (b : Bool) (e : Option MessageEnd) → AllBring Brings (out_by e) → AllBring Brings (out_by (cond b (Some new_end) e))
opened_brings true e all = tt
opened_brings false e all = all

number_differs : (k conn : ℕ) → (k == conn) ≡ false → conn ≡ k → ⊥
number_differs k conn differ same = grind (arith, nat_tests)

differs : (k conn : ℕ) → (k == conn) ≡ false → conn ≢ k
differs k conn differ = λ same. number_differs k conn differ same

opened_limit : (b : Bool) (conn k : ℕ) (before now : ServerState) (end : Option ChannelState) → (k == conn) ≡ b
    → ((limit : Sending) → conn ≢ k → HasLimit k (limit_of limit) before → HasLimit k (limit_of limit) now)
    → HasLimit conn (limit_of first_sending) now → LimitIn HasLimit end k before
    → LimitIn HasLimit (cond b (Some (new_channel sides.Server)) end) k now
opened_limit true conn k before now end is stays here h =
    subst (λ (n : ℕ). HasLimit n (limit_of first_sending) now) (sym (number_is k conn is)) here
opened_limit false conn k before now None is stays here h = tt
opened_limit false conn k before now (Some c) is stays here h = stays c.sending (differs k conn is) h

nothing_obeyed : (e : Option MessageEnd) → obeyed_by [] e ≡ e
nothing_obeyed None = refl
nothing_obeyed (Some e) = refl

opened_is : (conn : ℕ) (s : ServerState) → is_above s.highest conn ≡ true → conn_opened conn s ≡ nothing (with_new_conn conn s)
unfolding conn_opened
opened_is conn s above = ap (λ b. cond b (nothing (with_new_conn conn s)) (nothing s)) above

opened_stands : Rules → (firsts : ℕ → ℕ) (conn : ℕ) (r : BytesState) (t : Talk ServerState) → is_above r.hub.highest conn ≡ true
    → conn_at conn r.hub.conns ≡ None → Standing firsts r t
    → Standing (firsts_with conn 1 firsts)
    (bytes_with_ends (insert_entry nat_cmp r.channels conn (new_channel sides.Server)) (conn_opened conn r.hub))
    (with_ends (set_end conn (Some new_end) t.ends) (conn_opened conn r.hub))
opened_stands law firsts conn r t above none s =
    let now : ServerState = with_new_conn conn r.hub in
    let ends : Ends = insert_entry nat_cmp r.channels conn (new_channel sides.Server) in
    let is : conn_opened conn r.hub ≡ nothing now = opened_is conn r.hub above in
    let stays = λ (k : ℕ) (sending : Sending) (other : conn ≢ k) (h : HasLimit k (limit_of sending) r.hub).
    subst (λ (d : Did). HasLimit k (limit_of (after_orders (orders_for k d) sending)) d.state) is
    (law.lawful k sending (Opens conn) r.hub s.keeps tt other h).limit in
    let here : HasLimit conn (limit_of first_sending) now =
    subst (λ (d : Did). HasLimit conn (limit_of first_sending) d.state) is (law.opens conn r.hub none) in
    let at = λ (k : ℕ). sym (inserted_at conn k (new_channel sides.Server) r.channels) in
    let left = λ (k : ℕ). sym (nothing_obeyed (cond (k == conn) (Some new_end) (t.ends k))) in
    subst (λ (d : Did). Standing (firsts_with conn 1 firsts) (bytes_with_ends ends d) (with_ends (set_end conn (Some new_end) t.ends) d)) (sym is)
    (record {
      shows = record {
        hub = refl;
        ends = λ k. subst (λ (x : Option ChannelState). ShowsEnd (cond (k == conn) 1 (firsts k)) x (obeyed_by [] (cond (k == conn) (Some new_end) (t.ends k)))) (at k)
            (subst (λ (e : Option MessageEnd). ShowsEnd (cond (k == conn) 1 (firsts k)) (cond (k == conn) (Some (new_channel sides.Server)) (end_at k r.channels)) e) (left k)
            (opened_shows (k == conn) (firsts k) (end_at k r.channels) (t.ends k) (s.shows.ends k)));
      };
      keeps = subst (λ (d : Did). FitsServer d.state) is (keeps law (Opens conn) r.hub s.keeps tt);
      limits = λ k. subst (λ (x : Option ChannelState). LimitIn HasLimit x k now) (at k)
          (opened_limit (k == conn) conn k r.hub now (end_at k r.channels) refl (stays k) here (s.limits k));
      brings = λ k. subst (λ (e : Option MessageEnd). AllBring Brings (out_by e)) (left k) (opened_brings (k == conn) (t.ends k) (s.brings k));
    })

none_shown : (first : ℕ) (end : Option ChannelState) (e : Option MessageEnd) → end ≡ None → ShowsEnd first end e → e ≡ None
none_shown first None None is s = refl
none_shown first None (Some e) is s = absurd s
none_shown first (Some c) e is s = absurd cc

-- where no end stands, no number counts
any_first : (b : Bool) (first : ℕ) (end : Option ChannelState) (e : Option MessageEnd) → (b ≡ true → end ≡ None) → ShowsEnd first end e
    → ShowsEnd (cond b 1 first) end e
any_first true first None None none s = tt
any_first true first None (Some e) none s = absurd s
any_first true first (Some c) e none s = let is = none refl in absurd cc
any_first false first end e none s = s

not_opened : (firsts : ℕ → ℕ) (conn : ℕ) (r : BytesState) (t : Talk ServerState) → end_at conn r.channels ≡ None → Standing firsts r t
    → Standing (firsts_with conn 1 firsts) r t
not_opened firsts conn r t none s = record {
  shows = record {
    hub = s.shows.hub;
    ends = λ k. any_first (k == conn) (firsts k) (end_at k r.channels) (t.ends k)
        (λ is. ap (λ n. end_at n r.channels) (number_is k conn is) ∙ none) (s.shows.ends k);
  };
  keeps = s.keeps;
  limits = s.limits;
  brings = s.brings;
}

opened_by : Rules → (b : Bool) (firsts : ℕ → ℕ) (conn : ℕ) (r : BytesState) (t : Talk ServerState) → is_above r.hub.highest conn ≡ b
    → end_at conn r.channels ≡ None → Matches r → Standing firsts r t
    → Standing (firsts_with conn 1 firsts)
    (cond b (bytes_with_ends (bytes_end_opened conn r.channels) (after (Opens conn) r.hub)) r)
    (cond b (with_ends (end_opened conn t.ends) (after (Opens conn) r.hub)) t)
opened_by law true firsts conn r t above none m s =
    let new : Ends = insert_entry nat_cmp r.channels conn (new_channel sides.Server) in
    let more : MessageEnds = set_end conn (Some new_end) t.ends in
    let is : bytes_end_opened conn r.channels ≡ new = ap (λ (x : Option ChannelState). cond (is_some x) r.channels new) none in
    let also : end_opened conn t.ends ≡ more =
    ap (λ (e : Option MessageEnd). cond (is_some e) t.ends more) (none_shown (firsts conn) (end_at conn r.channels) (t.ends conn) none (s.shows.ends conn)) in
    subst (λ (x : Ends). Standing (firsts_with conn 1 firsts) (bytes_with_ends x (after (Opens conn) r.hub)) (with_ends (end_opened conn t.ends) (after (Opens conn) r.hub))) (sym is)
    (subst (λ (x : MessageEnds). Standing (firsts_with conn 1 firsts) (bytes_with_ends new (after (Opens conn) r.hub)) (with_ends x (after (Opens conn) r.hub))) (sym also)
    (opened_stands law firsts conn r t above (none_there conn r.channels r.hub.conns m.same none) s))
opened_by law false firsts conn r t above none m s = not_opened firsts conn r t none s

pub shows_opened : Rules → (firsts : ℕ → ℕ) (conn : ℕ) (r : BytesState) (t : Talk ServerState) → end_at conn r.channels ≡ None → Matches r
    → Standing firsts r t → Standing (firsts_with conn 1 firsts) (opened_bytes conn r) (opened conn t)
shows_opened law firsts conn r t none m s =
    subst (λ (x : ServerState). Standing (firsts_with conn 1 firsts) (opened_bytes conn r)
    (cond (is_above x.highest conn) (with_ends (end_opened conn t.ends) (after (Opens conn) x)) t)) s.shows.hub
    (opened_by law (is_above r.hub.highest conn) firsts conn r t refl none m s)

-- ---- a life begins

pub shows_first : (config : ServerConfig) (current : List Change) → FitsServer (new_server config current)
    → Standing (λ conn. 1) (new_bytes config current) (new_talk config current)
shows_first config current fits = record {
  shows = record { hub = refl; ends = λ k. tt };
  keeps = fits;
  limits = λ k. tt;
  brings = λ k. tt;
}

-- ---- what is awaited

new_expects : Expects 1 (new_channel sides.Server)
new_expects = record { number = refl; chunks = refl; body = refl; fault = refl; between = (omega arith, refl, refl) }

-- by a new end the first number is
new_awaits : (conn : ℕ) (ends : Ends) → end_at conn ends ≡ None → ExpectsIn 1 (end_at conn (bytes_end_opened conn ends))
new_awaits conn ends none =
    let new : Ends = insert_entry nat_cmp ends conn (new_channel sides.Server) in
    subst (λ (x : Option ChannelState). ExpectsIn 1 (end_at conn (cond (is_some x) ends new))) (sym none)
    (subst (ExpectsIn 1) (sym (inserted_at conn conn (new_channel sides.Server) ends ∙ ap (λ b. cond b (Some (new_channel sides.Server)) (end_at conn ends)) (same_number conn)))
    new_expects)

opened_awaits_by : (b : Bool) (conn : ℕ) (r : BytesState) → end_at conn r.channels ≡ None
    → ExpectsIn 1 (end_at conn (cond b (bytes_with_ends (bytes_end_opened conn r.channels) (after (Opens conn) r.hub)) r).channels)
opened_awaits_by true conn r none =
    expects_each conn 1 (orders_of (after (Opens conn) r.hub).said) (bytes_end_opened conn r.channels) (new_awaits conn r.channels none)
opened_awaits_by false conn r none = subst (ExpectsIn 1) (sym none) tt

pub opened_awaits : (conn : ℕ) (r : BytesState) → end_at conn r.channels ≡ None → ExpectsIn 1 (end_at conn (opened_bytes conn r).channels)
opened_awaits conn r none = opened_awaits_by (is_above r.hub.highest conn) conn r none

-- by another end what it awaited before
opened_end : (b : Bool) (conn k : ℕ) (ends : Ends) → (k == conn) ≡ false
    → end_at k (cond b ends (insert_entry nat_cmp ends conn (new_channel sides.Server))) ≡ end_at k ends
opened_end true conn k ends differ = refl
opened_end false conn k ends differ =
    inserted_at conn k (new_channel sides.Server) ends ∙ ap (λ b. cond b (Some (new_channel sides.Server)) (end_at k ends)) differ

opened_other_by : (b : Bool) (conn k next : ℕ) (r : BytesState) → (k == conn) ≡ false → ExpectsIn next (end_at k r.channels)
    → ExpectsIn next (end_at k (cond b (bytes_with_ends (bytes_end_opened conn r.channels) (after (Opens conn) r.hub)) r).channels)
opened_other_by true conn k next r differ x =
    expects_each k next (orders_of (after (Opens conn) r.hub).said) (bytes_end_opened conn r.channels)
    (subst (ExpectsIn next) (sym (opened_end (is_some (end_at conn r.channels)) conn k r.channels differ)) x)
opened_other_by false conn k next r differ x = x

pub is_other : (k conn : ℕ) → k ≢ conn → (k == conn) ≡ false
is_other k conn other = by_test (k == conn) refl
  where
    by_test : (b : Bool) → (k == conn) ≡ b → b ≡ false
    by_test true is = absurd (other (number_is k conn is))
    by_test false is = refl

pub opened_other : (conn k next : ℕ) (r : BytesState) → k ≢ conn → ExpectsIn next (end_at k r.channels)
    → ExpectsIn next (end_at k (opened_bytes conn r).channels)
opened_other conn k next r other x = opened_other_by (is_above r.hub.highest conn) conn k next r (is_other k conn other) x

closed_other_by : (b : Bool) (conn k next : ℕ) (r : BytesState) → (k == conn) ≡ false → ExpectsIn next (end_at k r.channels)
    → ExpectsIn next (end_at k (cond b (bytes_with_ends (bytes_end_closed conn r.channels) (after (Closes conn) r.hub)) r).channels)
closed_other_by true conn k next r differ x =
    expects_each k next (orders_of (after (Closes conn) r.hub).said) (bytes_end_closed conn r.channels)
    (subst (ExpectsIn next) (sym (removed_apart conn k r.channels differ)) x)
closed_other_by false conn k next r differ x = x

pub closed_other : (conn k next : ℕ) (r : BytesState) → k ≢ conn → ExpectsIn next (end_at k r.channels)
    → ExpectsIn next (end_at k (closed_bytes conn r).channels)
closed_other conn k next r other x = closed_other_by (is_some (end_at conn r.channels)) conn k next r (is_other k conn other) x

-- whatever else happens
pub happened_awaits : (happening : Happening) (k next : ℕ) (r : BytesState) → ExpectsIn next (end_at k r.channels)
    → ExpectsIn next (end_at k (bytes_with_ends r.channels (after happening r.hub)).channels)
happened_awaits happening k next r x = expects_each k next (orders_of (after happening r.hub).said) r.channels x

-- A slab and the keys of an ordered map, as the list of the map's numbers with the slab's channels.
use Rattle.std.proofs.Common.{◌≡◌, ◌≢◌, ℕ, Bool, true, false, cond, List, [], ◌∷◌, Option, Some, None, unwrap_or, option_map, refl, sym, ap, subst, ◌∙◌, Less, Equal, Greater, Ordering}
use Rattle.std.specs.Ordering.{match_ordering}
use Rattle.std.specs.BTreeMap.{insert_entry}
use Rattle.std.specs.Map.{lookup, remove_entry, set_value}
use Rattle.slab.specs.Slab.{Slab, get}
use Rattle.ua_channel.specs.State.{ChannelState, blank_end}
use Rattle.ua_channel.specs.Connections.{AreHeld, NotAmong, channel_in, shown}

abbrev pub Keys : Type 0
Keys = List (ℕ × ℕ)

-- the slabs have the same at every other key
abbrev pub SameBut : ℕ → Slab ChannelState → Slab ChannelState → Type 0
SameBut key old new = (k : ℕ) → k ≢ key → get new k ≡ get old k

pub shown_same : (key : ℕ) (es : Keys) (old new : Slab ChannelState) → SameBut key old new → NotAmong key es → shown new es ≡ shown old es
shown_same key [] old new same apart = refl
shown_same key (e ∷ es) old new same apart =
    ap (λ (o : Option ChannelState). (e.0, unwrap_or o blank_end) ∷ shown new es) (same e.1 apart.0)
    ∙ ap (λ (l : List (ℕ × ChannelState)). (e.0, channel_in old e.1) ∷ l) (shown_same key es old new same apart.1)

held_one : (key : ℕ) (old new : Slab ChannelState) → get new key ≡ get old key → get old key ≡ Some (channel_in old key) → get new key ≡ Some (channel_in new key)
held_one key old new same is = same ∙ is ∙ ap (λ (o : Option ChannelState). Some (unwrap_or o blank_end)) (sym same)

pub held_same : (key : ℕ) (es : Keys) (old new : Slab ChannelState) → SameBut key old new → NotAmong key es → AreHeld old es → AreHeld new es
held_same key [] old new same apart held = tt
held_same key (e ∷ es) old new same apart held =
    (held_one e.1 old new (same e.1 apart.0) held.0, held.1, held_same key es old new same apart.1 held.2)

-- what a slab may be filled with doesn't matter
pub shown_all : (es : Keys) (old new : Slab ChannelState) → ((k : ℕ) → get new k ≡ get old k) → shown new es ≡ shown old es
shown_all [] old new same = refl
shown_all (e ∷ es) old new same =
    ap (λ (o : Option ChannelState). (e.0, unwrap_or o blank_end) ∷ shown new es) (same e.1)
    ∙ ap (λ (l : List (ℕ × ChannelState)). (e.0, channel_in old e.1) ∷ l) (shown_all es old new same)

pub held_all : (es : Keys) (old new : Slab ChannelState) → ((k : ℕ) → get new k ≡ get old k) → AreHeld old es → AreHeld new es
held_all [] old new same held = tt
held_all (e ∷ es) old new same held = (held_one e.1 old new (same e.1) held.0, held.1, held_all es old new same held.2)

-- ---- looked up

lookup_by : (b : Bool) (s : Slab ChannelState) (key : ℕ) (o : Option ℕ) (p : Option ChannelState) → p ≡ option_map (channel_in s) o
    → cond b (Some (channel_in s key)) p ≡ option_map (channel_in s) (cond b (Some key) o)
lookup_by true s key o p e = refl
lookup_by false s key o p e = e

pub lookup_shown : (t : ℕ → Bool) (s : Slab ChannelState) (es : Keys) → lookup t (shown s es) ≡ option_map (channel_in s) (lookup t es)
lookup_shown t s [] = refl
lookup_shown t s (e ∷ es) = lookup_by (t e.0) s e.1 (lookup t es) (lookup t (shown s es)) (lookup_shown t s es)

same_key : (x y : ℕ) → Some x ≡ Some y → x ≡ y
same_key x y e = cc

held_by : (b : Bool) (s : Slab ChannelState) (first key : ℕ) (o : Option ℕ) → cond b (Some first) o ≡ Some key
    → get s first ≡ Some (channel_in s first) → (o ≡ Some key → get s key ≡ Some (channel_in s key)) → get s key ≡ Some (channel_in s key)
held_by true s first key o e is others = let same = same_key first key e in ap (get s) (sym same) ∙ is ∙ ap (λ (k : ℕ). Some (channel_in s k)) same
held_by false s first key o e is others = others e

-- the key of a number has a channel
pub held_at : (t : ℕ → Bool) (s : Slab ChannelState) (es : Keys) (key : ℕ) → lookup t es ≡ Some key → AreHeld s es → get s key ≡ Some (channel_in s key)
held_at t s [] key e held = absurd cc
held_at t s (x ∷ es) key e held = held_by (t x.0) s x.1 key (lookup t es) e held.0 (λ found. held_at t s es key found held.2)

-- the channel of a number, if it has one
found_by : (o : Option ℕ) (t : ℕ → Bool) (s : Slab ChannelState) (es : Keys) (key : ℕ) → lookup t es ≡ Some key → AreHeld s es → get s key ≡ lookup t (shown s es)
found_by o t s es key e held = held_at t s es key e held ∙ sym (lookup_shown t s es ∙ ap (option_map (channel_in s)) e)

pub found_at : (t : ℕ → Bool) (s : Slab ChannelState) (es : Keys) (key : ℕ) → lookup t es ≡ Some key → AreHeld s es → get s key ≡ lookup t (shown s es)
found_at t s es key e held = found_by None t s es key e held

pub found_none : (t : ℕ → Bool) (s : Slab ChannelState) (es : Keys) → lookup t es ≡ None → lookup t (shown s es) ≡ None
found_none t s es e = lookup_shown t s es ∙ ap (option_map (channel_in s)) e

among_by : (b : Bool) (first key k : ℕ) (o : Option ℕ) → cond b (Some first) o ≡ Some key → first ≢ k → (o ≡ Some key → key ≢ k) → key ≢ k
among_by true first key k o e apart others = λ same. apart (same_key first key e ∙ same)
among_by false first key k o e apart others = others e

-- a key that isn't among them is none that is found
pub among : (t : ℕ → Bool) (es : Keys) (key k : ℕ) → lookup t es ≡ Some key → NotAmong k es → key ≢ k
among t [] key k e apart = absurd cc
among t (x ∷ es) key k e apart = among_by (t x.0) x.1 key k (lookup t es) e apart.0 (λ found. among t es key k found apart.1)

-- ---- another channel at a key

pub record Sets (t : ℕ → Bool) (es : Keys) (old new : Slab ChannelState) (c : ChannelState) : Type 0 where
  pub shows : shown new es ≡ set_value t (shown old es) c
  pub held : AreHeld new es

in_new : (new : Slab ChannelState) (key : ℕ) (c : ChannelState) → get new key ≡ Some c → channel_in new key ≡ c
in_new new key c e = ap (λ (o : Option ChannelState). unwrap_or o blank_end) e

is_held : (new : Slab ChannelState) (key : ℕ) (c : ChannelState) → get new key ≡ Some c → get new key ≡ Some (channel_in new key)
is_held new key c e = e ∙ ap (λ (x : ChannelState). Some x) (sym (in_new new key c e))

sets_by : (b : Bool) (t : ℕ → Bool) (x : ℕ × ℕ) (es : Keys) (key : ℕ) (old new : Slab ChannelState) (c : ChannelState) → t x.0 ≡ b
    → SameBut key old new → get new key ≡ Some c → AreHeld old (x ∷ es) → cond b (Some x.1) (lookup t es) ≡ Some key
    → (lookup t es ≡ Some key → Sets t es old new c) → Sets t (x ∷ es) old new c
sets_by true t x es key old new c b same is held e others =
    let here : x.1 ≡ key = same_key x.1 key e in
    let at : get new x.1 ≡ Some c = ap (get new) here ∙ is in
    let apart : NotAmong key es = subst (λ (k : ℕ). NotAmong k es) here held.1 in
    record {
      shows = ap (λ (d : ChannelState). (x.0, d) ∷ shown new es) (in_new new x.1 c at)
          ∙ ap (λ (l : List (ℕ × ChannelState)). (x.0, c) ∷ l) (shown_same key es old new same apart)
          ∙ sym (ap (λ b. cond b ((x.0, c) ∷ shown old es) ((x.0, channel_in old x.1) ∷ set_value t (shown old es) c)) b);
      held = (is_held new x.1 c at, held.1, held_same key es old new same apart held.2);
    }
sets_by false t x es key old new c b same is held e others =
    let more = others e in
    let apart : x.1 ≢ key = λ equal. among t es key x.1 e held.1 (sym equal) in
    record {
      shows = ap (λ (o : Option ChannelState). (x.0, unwrap_or o blank_end) ∷ shown new es) (same x.1 apart)
          ∙ ap (λ (l : List (ℕ × ChannelState)). (x.0, channel_in old x.1) ∷ l) more.shows
          ∙ sym (ap (λ b. cond b ((x.0, c) ∷ shown old es) ((x.0, channel_in old x.1) ∷ set_value t (shown old es) c)) b);
      held = (held_one x.1 old new (same x.1 apart) held.0, held.1, more.held);
    }

pub sets : (t : ℕ → Bool) (es : Keys) (key : ℕ) (old new : Slab ChannelState) (c : ChannelState) → SameBut key old new → get new key ≡ Some c
    → AreHeld old es → lookup t es ≡ Some key → Sets t es old new c
sets t [] key old new c same is held e = absurd cc
sets t (x ∷ es) key old new c same is held e =
    sets_by (t x.0) t x es key old new c refl same is held e (λ found. sets t es key old new c same is held.2 found)

unset_by : (b : Bool) (x : ℕ × ChannelState) (l m : List (ℕ × ChannelState)) (c : ChannelState) (o : Option ChannelState) → cond b (Some x.1) o ≡ None → (o ≡ None → m ≡ l)
    → cond b ((x.0, c) ∷ l) (x ∷ m) ≡ x ∷ l
unset_by true x l m c o e others = absurd cc
unset_by false x l m c o e others = ap (λ (k : List (ℕ × ChannelState)). x ∷ k) (others e)

-- a number that none has changes nothing
pub unset : (t : ℕ → Bool) (es : List (ℕ × ChannelState)) (c : ChannelState) → lookup t es ≡ None → set_value t es c ≡ es
unset t [] c e = refl
unset t (x ∷ es) c e = unset_by (t x.0) x es (set_value t es c) c (lookup t es) e (λ none. unset t es c none)

unremoved_by : (b : Bool) (x : ℕ × ChannelState) (l m : List (ℕ × ChannelState)) (o : Option ChannelState) → cond b (Some x.1) o ≡ None → (o ≡ None → m ≡ l)
    → cond b l (x ∷ m) ≡ x ∷ l
unremoved_by true x l m o e others = absurd cc
unremoved_by false x l m o e others = ap (λ (k : List (ℕ × ChannelState)). x ∷ k) (others e)

pub unremoved : (t : ℕ → Bool) (es : List (ℕ × ChannelState)) → lookup t es ≡ None → remove_entry t es ≡ es
unremoved t [] e = refl
unremoved t (x ∷ es) e = unremoved_by (t x.0) x es (remove_entry t es) (lookup t es) e (λ none. unremoved t es none)

-- ---- a number left out

pub record Removes (t : ℕ → Bool) (es : Keys) (old new : Slab ChannelState) : Type 0 where
  pub shows : shown new (remove_entry t es) ≡ remove_entry t (shown old es)
  pub held : AreHeld new (remove_entry t es)

apart_by : (b : Bool) (k : ℕ) (x : ℕ × ℕ) (es fs : Keys) → x.1 ≢ k → NotAmong k es → NotAmong k fs → NotAmong k (cond b es (x ∷ fs))
apart_by true k x es fs one here there = here
apart_by false k x es fs one here there = (one, there)

apart_removed : (t : ℕ → Bool) (k : ℕ) (es : Keys) → NotAmong k es → NotAmong k (remove_entry t es)
apart_removed t k [] apart = tt
apart_removed t k (x ∷ es) apart = apart_by (t x.0) k x es (remove_entry t es) apart.0 apart.1 (apart_removed t k es apart.1)

removes_by : (b : Bool) (t : ℕ → Bool) (x : ℕ × ℕ) (es : Keys) (key : ℕ) (old new : Slab ChannelState) → t x.0 ≡ b
    → SameBut key old new → AreHeld old (x ∷ es) → cond b (Some x.1) (lookup t es) ≡ Some key
    → (lookup t es ≡ Some key → Removes t es old new) → Removes t (x ∷ es) old new
removes_by true t x es key old new b same held e others =
    let here : x.1 ≡ key = same_key x.1 key e in
    let apart : NotAmong key es = subst (λ (k : ℕ). NotAmong k es) here held.1 in
    record {
      shows = ap (λ b. shown new (cond b es (x ∷ remove_entry t es))) b
          ∙ shown_same key es old new same apart
          ∙ sym (ap (λ b. cond b (shown old es) ((x.0, channel_in old x.1) ∷ remove_entry t (shown old es))) b);
      held = subst (λ b. AreHeld new (cond b es (x ∷ remove_entry t es))) (sym b) (held_same key es old new same apart held.2);
    }
removes_by false t x es key old new b same held e others =
    let more = others e in
    let apart : x.1 ≢ key = λ equal. among t es key x.1 e held.1 (sym equal) in
    record {
      shows = ap (λ b. shown new (cond b es (x ∷ remove_entry t es))) b
          ∙ ap (λ (o : Option ChannelState). (x.0, unwrap_or o blank_end) ∷ shown new (remove_entry t es)) (same x.1 apart)
          ∙ ap (λ (l : List (ℕ × ChannelState)). (x.0, channel_in old x.1) ∷ l) more.shows
          ∙ sym (ap (λ b. cond b (shown old es) ((x.0, channel_in old x.1) ∷ remove_entry t (shown old es))) b);
      held = subst (λ b. AreHeld new (cond b es (x ∷ remove_entry t es))) (sym b)
          (held_one x.1 old new (same x.1 apart) held.0, apart_removed t x.1 es held.1, more.held);
    }

pub removes : (t : ℕ → Bool) (es : Keys) (key : ℕ) (old new : Slab ChannelState) → SameBut key old new → AreHeld old es → lookup t es ≡ Some key → Removes t es old new
removes t [] key old new same held e = absurd cc
removes t (x ∷ es) key old new same held e =
    removes_by (t x.0) t x es key old new refl same held e (λ found. removes t es key old new same held.2 found)

-- ---- a number more

none_some : (x : ChannelState) (o : Option ChannelState) → o ≡ None → o ≡ Some x → ⊥
none_some x o none some = absurd cc

-- a vacant key is of no number
pub vacant : (s : Slab ChannelState) (es : Keys) (key : ℕ) → get s key ≡ None → AreHeld s es → NotAmong key es
vacant s [] key none held = tt
vacant s (x ∷ es) key none held =
    (λ same. none_some (channel_in s x.1) (get s x.1) (ap (get s) same ∙ none) held.0, vacant s es key none held.2)

pub record Inserts (cmp : ℕ → ℕ → Ordering) (es : Keys) (number key : ℕ) (old new : Slab ChannelState) (c : ChannelState) : Type 0 where
  pub shows : shown new (insert_entry cmp es number key) ≡ insert_entry cmp (shown old es) number c
  pub held : AreHeld new (insert_entry cmp es number key)

apart_in : (o : Ordering) (k number key : ℕ) (x : ℕ × ℕ) (es fs : Keys) → key ≢ k → x.1 ≢ k → NotAmong k es → NotAmong k fs
    → NotAmong k (match_ordering o ((number, key) ∷ x ∷ es) ((x.0, key) ∷ es) (x ∷ fs))
apart_in Less k number key x es fs own one here there = (own, (one, here))
apart_in Equal k number key x es fs own one here there = (own, here)
apart_in Greater k number key x es fs own one here there = (one, there)

apart_inserted : (cmp : ℕ → ℕ → Ordering) (k number key : ℕ) (es : Keys) → key ≢ k → NotAmong k es → NotAmong k (insert_entry cmp es number key)
apart_inserted cmp k number key [] own apart = (own, tt)
apart_inserted cmp k number key (x ∷ es) own apart =
    apart_in (cmp number x.0) k number key x es (insert_entry cmp es number key) own apart.0 apart.1 (apart_inserted cmp k number key es own apart.1)

pub record InsertsBy (o : Ordering) (x : ℕ × ℕ) (es fs : Keys) (number key : ℕ) (old new : Slab ChannelState) (l m : List (ℕ × ChannelState)) (c : ChannelState) : Type 0 where
  pub shows : shown new (match_ordering o ((number, key) ∷ x ∷ es) ((x.0, key) ∷ es) (x ∷ fs))
      ≡ match_ordering o ((number, c) ∷ (x.0, channel_in old x.1) ∷ l) ((x.0, c) ∷ l) ((x.0, channel_in old x.1) ∷ m)
  pub held : AreHeld new (match_ordering o ((number, key) ∷ x ∷ es) ((x.0, key) ∷ es) (x ∷ fs))

inserts_by : (o : Ordering) (x : ℕ × ℕ) (es fs : Keys) (number key : ℕ) (old new : Slab ChannelState) (m : List (ℕ × ChannelState)) (c : ChannelState)
    → SameBut key old new → get new key ≡ Some c → AreHeld old (x ∷ es) → NotAmong key (x ∷ es) → shown new fs ≡ m → AreHeld new fs → NotAmong x.1 fs
    → InsertsBy o x es fs number key old new (shown old es) m c
inserts_by Less x es fs number key old new m c same is held apart more more_held more_apart = record {
  shows = ap (λ (d : ChannelState). (number, d) ∷ shown new (x ∷ es)) (in_new new key c is)
      ∙ ap (λ (k : List (ℕ × ChannelState)). (number, c) ∷ k) (shown_same key (x ∷ es) old new same apart);
  held = (is_held new key c is, apart, held_same key (x ∷ es) old new same apart held);
}
inserts_by Equal x es fs number key old new m c same is held apart more more_held more_apart = record {
  shows = ap (λ (d : ChannelState). (x.0, d) ∷ shown new es) (in_new new key c is)
      ∙ ap (λ (k : List (ℕ × ChannelState)). (x.0, c) ∷ k) (shown_same key es old new same apart.1);
  held = (is_held new key c is, apart.1, held_same key es old new same apart.1 held.2);
}
inserts_by Greater x es fs number key old new m c same is held apart more more_held more_apart = record {
  shows = ap (λ (o : Option ChannelState). (x.0, unwrap_or o blank_end) ∷ shown new fs) (same x.1 apart.0)
      ∙ ap (λ (k : List (ℕ × ChannelState)). (x.0, channel_in old x.1) ∷ k) more;
  held = (held_one x.1 old new (same x.1 apart.0) held.0, more_apart, more_held);
}

pub inserts : (cmp : ℕ → ℕ → Ordering) (es : Keys) (number key : ℕ) (old new : Slab ChannelState) (c : ChannelState)
    → SameBut key old new → get new key ≡ Some c → AreHeld old es → NotAmong key es → Inserts cmp es number key old new c
inserts cmp [] number key old new c same is held apart = record {
  shows = ap (λ (d : ChannelState). (number, d) ∷ []) (in_new new key c is);
  held = (is_held new key c is, tt, tt);
}
inserts cmp (x ∷ es) number key old new c same is held apart =
    let more = inserts cmp es number key old new c same is held.2 apart.1 in
    let own : key ≢ x.1 = λ equal. apart.0 (sym equal) in
    let by = inserts_by (cmp number x.0) x es (insert_entry cmp es number key) number key old new (insert_entry cmp (shown old es) number c) c same is held apart
    more.shows more.held (apart_inserted cmp x.1 number key es own held.1) in
    record { shows = by.shows; held = by.held }

-- What a link keeps when it dials, it keeps when its client dials.
use Rattle.std.proofs.Common.{◌≡◌, ℕ, zero, suc, ◌+◌, ◌-◌, ◌&&◌, Bool, true, false, cond, nat_le, List, [], ◌∷◌, length, Option, Some, None, slice_index_or, slice_set, refl, sym, ap, subst, ◌∙◌}
use Rattle.ua_base.specs.declared.modes.SetMode.{SetMode}
use Rattle.ua_base.specs.declared.modes.SetMode.TheVariants.{Direct, Hot, Warm, Cold}
use Rattle.link_rules.specs.declared.phase.Phase.TheVariants as phase
use Rattle.link_rules.specs.State.{LinkState, new_link, with_phase}
use Rattle.link_rules.specs.Opening.{dials, may_dial}
use Rattle.client_rules.specs.State.{ClientState, is_server, link_config, link_of, with_link}
use Rattle.client_rules.specs.Dialling.{are_idle, dialled, dialled_by, dials_among, dials_if, first_to_dial, has_numbers}
use Rattle.client_cuts.proofs.Dialling.{are_dialled}
use Rattle.client_messages.specs.Showing.{KnowsLimit, Limits}

pub at_set : (P : LinkState → Type 0) (links : List LinkState) (place i : ℕ) (l blank : LinkState) → (place ≡ i → P l)
    → P (slice_index_or links i blank) → P (slice_index_or (slice_set links place l) i blank)
at_set P [] place i l blank own p = p
at_set P (x ∷ links) zero zero l blank own p = own refl
at_set P (x ∷ links) zero (suc i) l blank own p = p
at_set P (x ∷ links) (suc place) zero l blank own p = p
at_set P (x ∷ links) (suc place) (suc i) l blank own p = at_set P links place i l blank (λ e. own (ap suc e)) p

module _ (P : LinkState → Type 0) (keeps : (l : LinkState) → P l → P (dials l)) where
  dials_by : (b : Bool) (server number : ℕ) (c : ClientState) → P (link_of number c)
      → P (link_of number (cond b (with_link server (dials (link_of server c)) c) c))
  dials_by true server number c p =
      let blank : LinkState = new_link (link_config c.config) in
      at_set P c.links (server - 1) (number - 1) (dials (link_of server c)) blank
      (λ same. keeps (link_of server c) (subst (λ n. P (slice_index_or c.links n blank)) (sym same) p)) p
  dials_by false server number c p = p

  among_keep : (count number : ℕ) (c : ClientState) → P (link_of number c) → P (link_of number (dials_among count c))
  unfolding dials_among
  among_keep zero number c p = p
  among_keep (suc count) number c p =
      dials_by (may_dial (link_of (count + 1) (dials_among count c))) (count + 1) number (dials_among count c) (among_keep count number c p)

  if_keeps : (o : Option ℕ) (number : ℕ) (c : ClientState) → P (link_of number c) → P (link_of number (dials_if o c))
  if_keeps None number c p = p
  if_keeps (Some server) number c p = dials_by (may_dial (link_of server c)) server number c p

  by_test : (b : Bool) (number : ℕ) (c d : ClientState) → P (link_of number c) → P (link_of number d) → P (link_of number (cond b d c))
  by_test true number c d p q = q
  by_test false number c d p q = p

  mode_keeps : (mode : SetMode) (number : ℕ) (c : ClientState) → P (link_of number c) → P (link_of number (dialled_by mode c))
  mode_keeps Hot number c p = among_keep (length c.links) number c p
  mode_keeps Warm number c p = among_keep (length c.links) number c p
  mode_keeps Cold number c p =
      by_test (are_idle (length c.links) c) number c (dials_if (first_to_dial (length c.links) c.cursor c) c) p
      (if_keeps (first_to_dial (length c.links) c.cursor c) number c p)
  mode_keeps Direct number c p = p

  pub dialled_keeps : (number : ℕ) (c : ClientState) → P (link_of number c) → P (link_of number (dialled c))
  unfolding dialled
  dialled_keeps number c p =
      by_test (has_numbers c) number c (dialled_by c.config.mode c) p (mode_keeps c.config.mode number c p)

-- ---- limits

dial_knows : (b : Bool) (limit : ℕ) (l : LinkState) → KnowsLimit l limit → KnowsLimit (cond b (with_phase (phase.Dialing false) l) l) limit
dial_knows true limit l knows = λ stands. absurd cc
dial_knows false limit l knows = knows

-- a link whose connection stands doesn't dial
pub dialled_knows : (limit number : ℕ) (c : ClientState) → KnowsLimit (link_of number c) limit → KnowsLimit (link_of number (dialled c)) limit
dialled_knows limit number c knows =
    dialled_keeps (λ l. KnowsLimit l limit) (λ l known. dial_knows (may_dial l) limit l known) number c knows

pub dialled_server : (number : ℕ) (c : ClientState) → is_server number (dialled c) ≡ is_server number c
dialled_server number c = ap (λ n. nat_le 1 number && nat_le number n) (are_dialled c).count

pub dialled_limits : (number limit : ℕ) (c : ClientState) → Limits number limit c → Limits number limit (dialled c)
dialled_limits number limit c knows = λ is. dialled_knows limit number c (knows (sym (dialled_server number c) ∙ is))

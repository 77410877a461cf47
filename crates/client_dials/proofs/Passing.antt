-- What passes on a link's connections, one after another.
use Rattle.std.proofs.Common.{◌≡◌, List, [], ◌∷◌, ◌++◌, map, refl, sym, ap, ◌∙◌, subst, append_assoc}
use Rattle.std.proofs.lemmas.List.{append-nil}
use Rattle.ua_channel.specs.declared.heard.Heard.{Heard}
use Rattle.link_rules.specs.State.{LinkState}
use Rattle.link_rules.specs.Said.{Said}
use Rattle.link_rules.specs.Step.{Happening, after}
use Rattle.client_links.specs.Links.{Opened, Passing, Put, Took, begun_by}
use Rattle.client_dials.specs.Spoken.{Spoken, new_spoken, spoken_in, spoken_with}

-- in one event
abbrev pub passed_at : Happening → LinkState → List Passing
passed_at h l = begun_by h ++ map Put (after h l).said

pub spoken_join : (one more : List Passing) (all : List Spoken) → spoken_in (one ++ more) all ≡ spoken_in more (spoken_in one all)
spoken_join [] more all = refl
spoken_join (passing ∷ one) more all = spoken_join one more (spoken_with passing all)

-- ---- what is said

pub says_nowhere : (said : List Said) → spoken_in (map Put said) [] ≡ []
says_nowhere [] = refl
says_nowhere (one ∷ said) = says_nowhere said

pub says_newest : (said : List Said) (s : Spoken) (older : List Spoken)
    → spoken_in (map Put said) (s ∷ older) ≡ record s { said = s.said ++ said } ∷ older
says_newest [] s older = ap (λ (l : List Said). record s { said = l } ∷ older) (sym (append-nil s.said))
says_newest (one ∷ said) s older =
    says_newest said (record s { said = s.said ++ one ∷ [] }) older
    ∙ ap (λ (l : List Said). record s { said = l } ∷ older) (append_assoc s.said (one ∷ []) said)

-- ---- a connection goes on, and stays where it is

-- among these is one that begins as it does
pub record IsKept (spoken : Spoken) (all : List Spoken) : Type 0 where
  pub newer : List Spoken
  pub now : Spoken
  pub older : List Spoken
  pub are : all ≡ newer ++ now ∷ older
  pub later : List Heard
  pub heard : now.heard ≡ spoken.heard ++ later
  pub others : List Said
  pub said : now.said ≡ spoken.said ++ others

kept_by : (passing : Passing) (newer : List Spoken) (now : Spoken) (older : List Spoken) (spoken : Spoken) (later : List Heard) (others : List Said)
    → now.heard ≡ spoken.heard ++ later → now.said ≡ spoken.said ++ others → IsKept spoken (spoken_with passing (newer ++ now ∷ older))
kept_by Opened newer now older spoken later others heard said = record {
  newer = new_spoken ∷ newer;
  now = now;
  older = older;
  are = refl;
  later = later;
  heard = heard;
  others = others;
  said = said;
}
kept_by (Took h) [] now older spoken later others heard said = record {
  newer = [];
  now = record now { heard = now.heard ++ h ∷ [] };
  older = older;
  are = refl;
  later = later ++ h ∷ [];
  heard = ap (λ (l : List Heard). l ++ h ∷ []) heard ∙ append_assoc spoken.heard later (h ∷ []);
  others = others;
  said = said;
}
kept_by (Took h) (one ∷ newer) now older spoken later others heard said = record {
  newer = record one { heard = one.heard ++ h ∷ [] } ∷ newer;
  now = now;
  older = older;
  are = refl;
  later = later;
  heard = heard;
  others = others;
  said = said;
}
kept_by (Put one) [] now older spoken later others heard said = record {
  newer = [];
  now = record now { said = now.said ++ one ∷ [] };
  older = older;
  are = refl;
  later = later;
  heard = heard;
  others = others ++ one ∷ [];
  said = ap (λ (l : List Said). l ++ one ∷ []) said ∙ append_assoc spoken.said others (one ∷ []);
}
kept_by (Put one) (first ∷ newer) now older spoken later others heard said = record {
  newer = record first { said = first.said ++ one ∷ [] } ∷ newer;
  now = now;
  older = older;
  are = refl;
  later = later;
  heard = heard;
  others = others;
  said = said;
}

kept_with : (passing : Passing) (spoken : Spoken) (all : List Spoken) → IsKept spoken all → IsKept spoken (spoken_with passing all)
kept_with passing spoken all kept =
    subst (λ (l : List Spoken). IsKept spoken (spoken_with passing l)) (sym kept.are)
    (kept_by passing kept.newer kept.now kept.older spoken kept.later kept.others kept.heard kept.said)

pub kept_in : (passed : List Passing) (spoken : Spoken) (all : List Spoken) → IsKept spoken all → IsKept spoken (spoken_in passed all)
kept_in [] spoken all kept = kept
kept_in (passing ∷ passed) spoken all kept = kept_in passed spoken (spoken_with passing all) (kept_with passing spoken all kept)

pub kept_newest : (spoken : Spoken) (older : List Spoken) → IsKept spoken (spoken ∷ older)
kept_newest spoken older = record {
  newer = [];
  now = spoken;
  older = older;
  are = refl;
  later = [];
  heard = sym (append-nil spoken.heard);
  others = [];
  said = sym (append-nil spoken.said);
}

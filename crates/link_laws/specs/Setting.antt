-- The modes that a link asks for, those that are confirmed, and the client's wishes.
use Rattle.std.specs.Prelude.{ℕ, ℤ, ◌+◌, pos, List, [], ◌∷◌, ◌++◌, Option, Some, None}
use Rattle.ua_base.specs.Modes.{mode_number}
use Rattle.link_rules.specs.declared.notice.Notice.{Notice}
use Rattle.link_rules.specs.declared.notice.Notice.TheVariants as notice
use Rattle.link_rules.specs.declared.phase.Phase.{Phase}
use Rattle.link_rules.specs.declared.phase.Phase.TheVariants as phase
use Rattle.link_rules.specs.declared.phase.Setting.{Setting}
use Rattle.link_rules.specs.State.{LinkState}
use Rattle.link_rules.specs.Said.{Said}
use Rattle.link_rules.specs.Step.{Happening, Wants}
use Rattle.link_laws.specs.Asked.{mode_asked}

-- ---- modes, by their numbers, in order

abbrev pub one_mode : Option ℤ → List ℤ
one_mode None = []
one_mode (Some mode) = mode ∷ []

-- of the SetMonitoringModes that are put
abbrev pub modes_put : List Said → List ℤ
modes_put [] = []
modes_put (said ∷ more) = one_mode (mode_asked said.told) ++ modes_put more

abbrev pub mode_sent : Notice → List ℤ
mode_sent (notice.Sent mode) = pos (mode_number mode) ∷ []
mode_sent other = []

-- that were told to be sent
abbrev pub modes_sent : List Notice → List ℤ
modes_sent [] = []
modes_sent (n ∷ more) = mode_sent n ++ modes_sent more

abbrev pub mode_confirmed : Notice → List ℤ
mode_confirmed (notice.Confirmed mode) = pos (mode_number mode) ∷ []
mode_confirmed other = []

-- that were told to be confirmed
abbrev pub modes_confirmed : List Notice → List ℤ
modes_confirmed [] = []
modes_confirmed (n ∷ more) = mode_confirmed n ++ modes_confirmed more

-- one that isn't confirmed yet
abbrev pub setting_mode : Option Setting → List ℤ
setting_mode None = []
setting_mode (Some setting) = pos (mode_number setting.mode) ∷ []

abbrev pub pending_in : Phase → List ℤ
pending_in (phase.Ready ready) = setting_mode ready.setting
pending_in other = []

abbrev pub pending : LinkState → List ℤ
pending l = pending_in l.phase

-- ---- counts

abbrev pub lost_told : Notice → ℕ
lost_told notice.Lost = 1
lost_told other = 0

abbrev pub losts_told : List Notice → ℕ
losts_told [] = 0
losts_told (n ∷ more) = lost_told n + losts_told more

abbrev pub wish_at : Happening → ℕ
wish_at (Wants mode) = 1
wish_at other = 0

-- the client wants a mode
abbrev pub wishes_in : List Happening → ℕ
wishes_in [] = 0
wishes_in (h ∷ more) = wish_at h + wishes_in more

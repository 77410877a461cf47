-- What a link tells its client: when it is ready.
use Rattle.std.specs.Prelude.{◌≡◌, List, [], ◌∷◌, Bool, true, false}
use Rattle.link_rules.specs.declared.notice.Notice.{Notice}
use Rattle.link_rules.specs.declared.notice.Notice.TheVariants as notice

-- whether it is ready, after a notice
abbrev pub ready_by : Notice → Bool → Bool
ready_by notice.Ready ready = true
ready_by notice.Lost ready = false
ready_by other ready = ready

abbrev pub ready_after : List Notice → Bool → Bool
ready_after [] ready = ready
ready_after (n ∷ notices) ready = ready_after notices (ready_by n ready)

-- it becomes ready only where it isn't, and is lost only where it is
abbrev pub MayTell : Notice → Bool → Type 0
MayTell notice.Ready ready = ready ≡ false
MayTell notice.Lost ready = ready ≡ true
MayTell other ready = Unit {0}

abbrev pub Alternate : Bool → List Notice → Type 0
Alternate ready [] = Unit {0}
Alternate ready (n ∷ notices) = MayTell n ready × Alternate (ready_by n ready) notices

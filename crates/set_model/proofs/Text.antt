-- Numbers in hexadecimal with zeros before them, as `{:02x}` and `{:08X}` print them.
use Rattle.std.proofs.Common.{◌≡◌, ℕ, ◌-◌, ◌^◌, List, [], ◌++◌, false, length, refl, arith}
use Rattle.std.specs.Prelude.{replicate}
use Rattle.std.specs.Fmt.{padded_integral, format_spec, char_count}
use Rattle.std.proofs.lemmas.List.{append-nil}

pub padded-zeros : (w : ℕ) (ds : List ℕ) → padded_integral (format_spec 32 0 4 w (2 ^ 64 - 1)) false [] ds ≡ replicate (w - length ds) 48 ++ ds
unfolding padded_integral char_count
padded-zeros w ds =
    let e : w - length ds - 0 - 0 ≡ w - length ds = omega arith in
    rw (append-nil, e) refl

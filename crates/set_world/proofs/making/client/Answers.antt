use Rattle.std.proofs.Common.{◌∙◌, ◌≤◌, ℕ, length, sym, ap, subst, arith}
use Rattle.set_world.proofs.Counting.{urls_count}
use Rattle.set_world.proofs.making.client.Goals as goal

few : (count : ℕ) → (1 ≤ count) × (count ≤ 8) → (1 ≤ count) × (count ≤ 255)
few count is = (is.0, most count is.1)
  where
    most : (n : ℕ) → n ≤ 8 → n ≤ 255
    most n is = omega arith

pub new-requires-clause-servers : goal.new-requires-clause-servers
new-requires-clause-servers c =
    subst (λ n. (1 ≤ n) × (n ≤ 255)) (sym (ap (λ us. length us) c.in_ok-urls.ensures ∙ urls_count c.args.kind.servers))
    (few c.args.kind.servers c.requires.servers)

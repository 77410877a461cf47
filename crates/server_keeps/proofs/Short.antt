-- Whatever is said on a connection is no longer than its end takes, as the server knows it.
use Rattle.std.proofs.Common.{◌≡◌, ℕ, ◌≤◌, true, length, nat_le, subst, arith}
use Rattle.ua_services.specs.declared.reply.Reply.{Reply}
use Rattle.server_rules.specs.declared.conn.Conn.{Conn}
use Rattle.server_rules.specs.Said.{Told, Refused, Replied, Acknowledged, Limited, Opened, Renewed}
use Rattle.server_rules.specs.Answering.{takes}
use Rattle.std.proofs.lemmas.Bool.Decides.{nat_tests}
use Rattle.server_rules.specs.Opening.{opening_reply}
use Rattle.ua_services.specs.Families.{written_reply}
use Rattle.server_keeps.proofs.Watching.{Watch}

at_most : (a b : ℕ) → nat_le a b ≡ true → a ≤ b
at_most a b test = grind (arith, nat_tests)

-- a reply fits an end of this limit
abbrev pub ShortTold : ℕ → Told → Type 0
ShortTold limit (Acknowledged greeting) = Unit {0}
ShortTold limit (Opened request response) =
    (length (written_reply (opening_reply response)) ≤ limit) × (length (written_reply (opening_reply response)) ≤ 4096)
ShortTold limit (Replied request answer) = length (written_reply answer) ≤ limit
ShortTold limit (Refused code) = Unit {0}
ShortTold limit (Limited limits) = ⊥
ShortTold limit (Renewed channel token) = Unit {0}

pub takes_short : (number limit : ℕ) (conn : Conn) (answer : Reply) → (conn.number ≡ number → conn.limit ≡ limit) → takes conn answer ≡ true → conn.number ≡ number
    → length (written_reply answer) ≤ limit
takes_short number limit conn answer own test same =
    subst (λ n. length (written_reply answer) ≤ n) (own same) (at_most (length (written_reply answer)) conn.limit test)

-- the connection has this limit, and what is told there fits it
abbrev pub limited : ℕ → ℕ → Watch
limited number limit = record {
  number = number;
  Good = λ conn. conn.limit ≡ limit;
  May = ShortTold limit;
  deaf = λ conn own same. own same;
  channelled = λ channel token conn hears own same. own same;
  replies = λ conn request answer own test same. takes_short number limit conn answer own test same;
  opens = λ conn request response own test few same. (takes_short number limit conn (opening_reply response) own test same, few);
  renews = λ channel token. tt;
  refuses = λ code. tt;
}

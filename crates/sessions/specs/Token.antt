-- The authentication tokens of a server's sessions (OPC 10000-4, 5.6.2.2).
use Rattle.std.specs.Prelude.{ℕ, List, ◌++◌, Bool, false, Option, Some, None}
use Rattle.std.specs.Int.{to_le_bytes, w16, w32}
use Rattle.std.specs.Str.{bytes_eq}

-- the bytes of a session's token: the server's boot number and the session's counter, low byte first
abbrev pub token_of : ℕ → ℕ → List ℕ
token_of boot counter = to_le_bytes w16 boot ++ to_le_bytes w32 counter

-- whether a ByteString is the token of this session; the null one is no session's
abbrev pub is_token_of : ℕ → ℕ → Option (List ℕ) → Bool
is_token_of boot counter None = false
is_token_of boot counter (Some bytes) = bytes_eq bytes (token_of boot counter)

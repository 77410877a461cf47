-- What is in flight in one direction of a connection: bytes, and the messages whose bytes they are.
use Rattle.std.proofs.Common.{◌≡◌, ℕ, List, [], ◌∷◌, ◌++◌, map, refl, sym, ap, ap₂, subst, ◌∙◌, append_assoc}
use Rattle.std.specs.List.{AllByRecursion}
use Rattle.ua_channel.specs.State.{WireState}
use Rattle.ua_channel.specs.Arriving.{Chain, Sent, after_sent, bytes_of, sent_bytes}
use Rattle.message_ends.specs.Showing.{AllBring}

-- each fits where it comes, the other end awaits the first one's number, and the next one is put with this number
pub record Flight (Fits : WireState → Type 0) (Awaits : ℕ → Type 0) (next : ℕ) (bytes : List ℕ) (wires : List WireState) : Type 0 where
  pub first : ℕ
  pub sent : List Sent
  pub wires_are : map (λ m. m.wire) sent ≡ wires
  pub bytes_are : bytes ≡ bytes_of sent
  pub chain : Chain first sent next
  pub fits : AllBring Fits wires
  pub awaits : Awaits first

-- nothing is
pub no_flight : (Fits : WireState → Type 0) (Awaits : ℕ → Type 0) (next : ℕ) → Awaits next → Flight Fits Awaits next [] []
no_flight Fits Awaits next awaits = record { first = next; sent = []; wires_are = refl; bytes_are = refl; chain = refl; fits = tt; awaits = awaits }

pub awaited : (Fits : WireState → Type 0) (Awaits Others : ℕ → Type 0) (next : ℕ) (bytes : List ℕ) (wires : List WireState)
    → ((n : ℕ) → Awaits n → Others n) → Flight Fits Awaits next bytes wires → Flight Fits Others next bytes wires
awaited Fits Awaits Others next bytes wires same f = record {
  first = f.first;
  sent = f.sent;
  wires_are = f.wires_are;
  bytes_are = f.bytes_are;
  chain = f.chain;
  fits = f.fits;
  awaits = same f.first f.awaits;
}

-- ---- more is put

chains : (first middle next : ℕ) (sent more : List Sent) → Chain first sent middle → Chain middle more next → Chain first (sent ++ more) next
chains first middle next [] more one other = subst (λ n. Chain n more next) (sym one) other
chains first middle next (m ∷ sent) more one other = (one.0, one.1, chains (after_sent m).next middle next sent more one.2 other)

bytes_join : (sent more : List Sent) → bytes_of sent ++ bytes_of more ≡ bytes_of (sent ++ more)
bytes_join [] more = refl
bytes_join (m ∷ sent) more = append_assoc (sent_bytes m) (bytes_of sent) (bytes_of more) ∙ ap (λ (l : List ℕ). sent_bytes m ++ l) (bytes_join sent more)

wires_join : (sent more : List Sent) → map (λ (m : Sent). m.wire) (sent ++ more) ≡ map (λ (m : Sent). m.wire) sent ++ map (λ (m : Sent). m.wire) more
wires_join [] more = refl
wires_join (m ∷ sent) more = ap (λ (l : List WireState). m.wire ∷ l) (wires_join sent more)

fits_join : (Fits : WireState → Type 0) (wires more : List WireState) → AllBring Fits wires → AllBring Fits more → AllBring Fits (wires ++ more)
fits_join Fits [] more one other = other
fits_join Fits (w ∷ wires) more one other = (one.0, fits_join Fits wires more one.1 other)

-- messages that were put, with the numbers that follow
pub record IsMore (Fits : WireState → Type 0) (first next : ℕ) (bytes : List ℕ) (wires : List WireState) : Type 0 where
  pub sent : List Sent
  pub wires_are : map (λ m. m.wire) sent ≡ wires
  pub bytes_are : bytes ≡ bytes_of sent
  pub chain : Chain first sent next
  pub fits : AllBring Fits wires

pub longer : (Fits : WireState → Type 0) (Awaits : ℕ → Type 0) (middle next : ℕ) (bytes more : List ℕ) (wires others : List WireState)
    → Flight Fits Awaits middle bytes wires → IsMore Fits middle next more others → Flight Fits Awaits next (bytes ++ more) (wires ++ others)
longer Fits Awaits middle next bytes more wires others f m = record {
  first = f.first;
  sent = f.sent ++ m.sent;
  wires_are = wires_join f.sent m.sent ∙ ap₂ (λ (x y : List WireState). x ++ y) f.wires_are m.wires_are;
  bytes_are = ap₂ (λ (x y : List ℕ). x ++ y) f.bytes_are m.bytes_are ∙ bytes_join f.sent m.sent;
  chain = chains f.first middle next f.sent m.sent f.chain m.chain;
  fits = fits_join Fits wires others f.fits m.fits;
  awaits = f.awaits;
}

-- ---- what comes fits

pub each_fits : (Fits : WireState → Type 0) (sent : List Sent) (wires : List WireState) → map (λ (m : Sent). m.wire) sent ≡ wires → AllBring Fits wires
    → AllByRecursion (λ (m : Sent). Fits m.wire) sent
each_fits Fits sent wires same all = each sent (subst (AllBring Fits) (sym same) all)
  where
    each : (sent : List Sent) → AllBring Fits (map (λ (m : Sent). m.wire) sent) → AllByRecursion (λ (m : Sent). Fits m.wire) sent
    each [] all = tt
    each (m ∷ sent) all = (all.0, each sent all.1)

-- The window of a stream's places: what one place more and a take make of it.
use Rattle.std.proofs.Common.{◌≡◌, ℕ, zero, suc, ◌+◌, ◌-◌, ◌≤◌, ◌<◌, List, [], ◌∷◌, ◌++◌, length, drop, max, refl, sym, ◌∙◌, ap, ap₂, arith}
use Rattle.std.proofs.lemmas.List.{drop-drop}
use Rattle.std.proofs.Math.Seq.{drop-nil}
use Rattle.item_queue.specs.Stream.{places_from, window}

-- how many places stand before the window of a stream of so many
abbrev pub before : ℕ → ℕ → ℕ → ℕ
before size taken count = max taken (count - size)

pub places-length : (first count : ℕ) → length (places_from first count) ≡ count
places-length first zero = refl
places-length first (suc count) = ap suc (places-length (first + 1) count)

-- without the first ones
places-drop : (less first count : ℕ) → drop less (places_from first count) ≡ places_from (first + less) (count - less)
places-drop zero first count =
    let same : first ≡ first + 0 = omega arith in
    let all : count ≡ count - 0 = omega arith in
    ap₂ places_from same all
places-drop (suc less) first zero =
    let none : 0 ≡ 0 - suc less = omega arith in
    ap (places_from (first + suc less)) none
places-drop (suc less) first (suc count) =
    let on : first + 1 + less ≡ first + suc less = omega arith in
    let left : count - less ≡ suc count - suc less = omega arith in
    places-drop less (first + 1) count ∙ ap₂ places_from on left

-- one more is the last
places-more : (first count : ℕ) → places_from first (suc count) ≡ places_from first count ++ (first + count) ∷ []
places-more first zero = ap (λ n. n ∷ []) (omega arith)
places-more first (suc count) =
    let on : first + 1 + count ≡ first + suc count = omega arith in
    ap (λ more. first ∷ more) (places-more (first + 1) count ∙ ap (λ n. places_from (first + 1) count ++ n ∷ []) on)

-- the window by the places before it
pub window_cut : (size taken count n : ℕ) → taken ≤ count → n ≡ before size taken count → window size taken count ≡ places_from (n + 1) (count - n)
window_cut size taken count n within is =
    let all = places-length 1 count in
    let left : length (drop taken (places_from 1 count)) ≡ count - taken =
    ap length (places-drop taken 1 count) ∙ places-length (1 + taken) (count - taken) in
    let cut : taken + (length (drop taken (places_from 1 count)) - size) ≡ n = omega arith in
    let on : 1 + n ≡ n + 1 = omega arith in
    drop-drop (length (drop taken (places_from 1 count)) - size) taken (places_from 1 count)
    ∙ ap (λ k. drop k (places_from 1 count)) cut
    ∙ places-drop n 1 count
    ∙ ap (λ k. places_from k (count - n)) on

-- with room the new place stands behind the others
pub window_room : (size taken count n : ℕ) → taken ≤ count → n ≡ before size taken count → count - n < size
    → window size taken (count + 1) ≡ window size taken count ++ (count + 1) ∷ []
window_room size taken count n within is room =
    let same : n ≡ before size taken (count + 1) = omega arith in
    let more : count + 1 - n ≡ suc (count - n) = omega arith in
    let last : n + 1 + (count - n) ≡ count + 1 = omega arith in
    window_cut size taken (count + 1) n (omega arith) same
    ∙ ap (places_from (n + 1)) more
    ∙ places-more (n + 1) (count - n)
    ∙ ap₂ (λ places k. places ++ k ∷ []) (sym (window_cut size taken count n within is)) last

-- without room the window moves by one place
pub window_full : (size taken count n : ℕ) → 1 ≤ size → taken ≤ count → n ≡ before size taken count → size ≤ count - n
    → window size taken (count + 1) ≡ drop 1 (window size taken count) ++ (count + 1) ∷ []
window_full size taken count n positive within is full =
    let same : n + 1 ≡ before size taken (count + 1) = omega arith in
    let more : count + 1 - (n + 1) ≡ suc (count - n - 1) = omega arith in
    let last : n + 1 + 1 + (count - n - 1) ≡ count + 1 = omega arith in
    window_cut size taken (count + 1) (n + 1) (omega arith) same
    ∙ ap (places_from (n + 1 + 1)) more
    ∙ places-more (n + 1 + 1) (count - n - 1)
    ∙ ap₂ (λ places k. places ++ k ∷ [])
    (sym (ap (drop 1) (window_cut size taken count n within is) ∙ places-drop 1 (n + 1) (count - n))) last

-- after a take of the window's first place the window is what is left
pub window_taken : (size taken count n place : ℕ) (places : List ℕ) → 1 ≤ size → taken ≤ count → n ≡ before size taken count
    → place ∷ places ≡ window size taken count → places ≡ window size place count
window_taken size taken count n place places positive within is held =
    let cut : place ∷ places ≡ places_from (n + 1) (count - n) = held ∙ window_cut size taken count n within is in
    let long : suc (length places) ≡ count - n = ap length cut ∙ places-length (n + 1) (count - n) in
    let left : count - n ≡ suc (count - (n + 1)) = omega arith in
    let parts : place ∷ places ≡ (n + 1) ∷ places_from (n + 1 + 1) (count - (n + 1)) = cut ∙ ap (places_from (n + 1)) left in
    let first : place ≡ n + 1 = cc in
    let rest : places ≡ places_from (n + 1 + 1) (count - (n + 1)) = cc in
    let same : n + 1 ≡ before size (n + 1) count = omega arith in
    rest
    ∙ sym (window_cut size (n + 1) count (n + 1) (omega arith) same)
    ∙ ap (λ k. window size k count) (sym first)

-- none of none
pub window_none : (size : ℕ) → [] ≡ window size 0 0
window_none size = sym (drop-nil {A = ℕ} (0 - size))

pub window-length : (size taken count n : ℕ) → taken ≤ count → n ≡ before size taken count → length (window size taken count) ≡ count - n
window-length size taken count n within is = ap length (window_cut size taken count n within is) ∙ places-length (n + 1) (count - n)

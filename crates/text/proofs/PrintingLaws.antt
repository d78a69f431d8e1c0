-- Laws of text that is put together. Assumes nothing.
use mathlib.Core.Path.{◌≡◌, refl, sym, ap, ◌∙◌, subst}
use mathlib.Core.Bool.{true, false}
use mathlib.Core.List.{List, [], ◌∷◌, ◌++◌, append-nil, append_assoc}
use Prim.Native.Nat.{ℕ, zero, suc, ◌+◌, ◌-◌, ◌/◌, ◌%◌, ◌≤◌, ◌<◌, min}
use native.Mathlib.Nat.{min_comm, min-eq_left}
use native.Mathlib.Omega.{arith}
use native.Mathlib.Numerals.{add-one}
use native.Mathlib.Decide.{dec_le}
use lib.ListN.{length, drop, take, set, length-append, length-set, length-drop, take-append-drop}
use lib.Seq.{drop-cons, drop_at, drop-length, drop-drop, drop-append-add, get_or-set_same, drop-set-lt}
use lib.Seq.{take_all, take_at, take-append-le, take-take, length-take-le, set_split, append_snoc}
use lib.IntN.{ℤ, pos, negsuc, nat_abs}
use lib.Signed.{lt_z}
use lib.Dec.{ltb}
use borrow.Author.Tests.{lt-ltb, le-ltb, ltb-true}
use mir.Syntax.{w32}
use mir.Val.{SFits, to_z, of_z}
use mir.ValLaws.{to_z-of_z}
use Rattle.lists.specs.Places.{entry}
use Rattle.lists.proofs.Parts.{first-in-use}
use Rattle.lists.proofs.Choice.{pick_true, pick-false}
use Rattle.octets.proofs.TwosComplement.{natural}
use Rattle.text.specs.Printing.{with, Puts, digits_before, decimal, signed, after_commas, listed}

-- ---- what is put, as far as there is room

take-most : (n : ℕ) (l : List ℕ) → length (take n l) ≤ n
take-most zero l = omega arith
take-most (suc n) [] = omega arith
take-most (suc n) (x ∷ xs) = let h = take-most n xs in omega arith

-- more after more
with-with : (room : ℕ) (a b c : List ℕ) → with room (with room a b) c ≡ with room a (b ++ c)
unfolding with
with-with room a b c = by (dec_le (length (a ++ b)) room)
  where
    long : room ≤ length (a ++ b) → take room (take room (a ++ b) ++ c) ≡ take room (a ++ (b ++ c))
    long h =
        take-append-le room (take room (a ++ b)) c (omega (arith, length-take-le room (a ++ b) h))
        ∙ take-take room room (a ++ b) (omega arith)
        ∙ sym (take-append-le room (a ++ b) c h)
        ∙ ap (take room) (append_assoc a b c)

    by : Dec (length (a ++ b) ≤ room) → take room (take room (a ++ b) ++ c) ≡ take room (a ++ (b ++ c))
    by (yes h) = ap (λ (l : List ℕ). take room (l ++ c)) (take_all room (a ++ b) h) ∙ ap (take room) (append_assoc a b c)
    by (no h) = long (omega (arith, h))

with-length : (room : ℕ) (a b : List ℕ) → length (with room a b) ≤ room
unfolding with
with-length room a b = take-most room (a ++ b)

-- what was put before stays
with-more : (room : ℕ) (a b : List ℕ) → length a ≤ room → length a ≤ length (with room a b)
unfolding with
with-more room a b h = by (dec_le (length (a ++ b)) room)
  where
    by : Dec (length (a ++ b) ≤ room) → length a ≤ length (take room (a ++ b))
    by (yes l) = omega (arith, ap length (take_all room (a ++ b) l), length-append a b)
    by (no l) = omega (arith, length-take-le room (a ++ b) (omega (arith, l)))

-- bytes w at the start of an area, then W, which begins with them
after_both : (w q : List ℕ) (r₁ r₂ : ℕ) → length w ≡ r₁ → r₁ ≤ r₂ → drop r₂ (w ++ drop r₁ q) ≡ drop r₂ q
after_both w q r₁ r₂ e h =
    let k : ℕ = r₂ - r₁ in
    let at : r₂ ≡ length w + k = omega arith in
    let back : r₁ + k ≡ r₂ = omega arith in
    ap (λ (n : ℕ). drop n (w ++ drop r₁ q)) at ∙ drop-append-add w (drop r₁ q) k ∙ drop-drop k r₁ q ∙ ap (λ (n : ℕ). drop n q) back

-- a call after a call
pub then-puts : {l l₁ l₂ : List ℕ} {i r₁ r₂ : ℕ} {xs ys : List ℕ} → Puts l i xs r₁ l₁ → Puts l₁ r₁ ys r₂ l₂ → Puts l i (xs ++ ys) r₂ l₂
then-puts {l} {l₁} {l₂} {i} {r₁} {r₂} {xs} {ys} p q =
    let n : ℕ = length l in
    let w : List ℕ = with n (take i l) xs in
    let rest : length (drop r₁ l) ≡ n - r₁ = length-drop r₁ l in
    let short : r₁ ≤ n = omega (arith, p.count, with-length n (take i l) xs) in
    let same : length l₁ ≡ n = omega (arith, ap length p.bytes, length-append w (drop r₁ l), p.count) in
    let first : take r₁ l₁ ≡ w = ap (take r₁) p.bytes ∙ take_at w (drop r₁ l) r₁ (sym p.count) in
    let here : with (length l₁) (take r₁ l₁) ys ≡ with n w ys = ap (λ (m : ℕ). with m (take r₁ l₁) ys) same ∙ ap (λ (t : List ℕ). with n t ys) first in
    let both : with (length l₁) (take r₁ l₁) ys ≡ with n (take i l) (xs ++ ys) = here ∙ with-with n (take i l) xs ys in
    let grown : r₁ ≤ r₂ = omega (arith, q.count, ap length here, p.count, with-more n w ys (omega (arith, p.count))) in
    record {
      count = q.count ∙ ap length both;
      bytes =
          q.bytes
          ∙ ap (λ (t : List ℕ). t ++ drop r₂ l₁) both
          ∙ ap (λ (t : List ℕ). with n (take i l) (xs ++ ys) ++ t)
          (ap (drop r₂) p.bytes ∙ after_both w l r₁ r₂ (sym p.count) grown);
    }

-- it ends within the area
pub puts-end : {l l' : List ℕ} {i r : ℕ} {xs : List ℕ} → Puts l i xs r l' → r ≤ length l
puts-end {l} {l'} {i} {r} {xs} p = omega (arith, p.count, with-length (length l) (take i l) xs)

pub puts-same : {l l' : List ℕ} {i r : ℕ} {xs ys : List ℕ} → xs ≡ ys → Puts l i xs r l' → Puts l i ys r l'
puts-same {l} {l'} {i} {r} e p = subst (λ (t : List ℕ). Puts l i t r l') e p

-- an area that has room for one byte more
pub put-room : (area : List ℕ) (at b : ℕ) → at < length area → Puts area at (b ∷ []) (at + 1) (set area at b)
unfolding with
put-room area at b h =
    let before : length (take at area) ≡ at = length-take-le at area (omega arith) in
    let size : length (take at area ++ (b ∷ [])) ≡ at + 1 = omega (arith, length-append (take at area) (b ∷ [])) in
    let whole : take (length area) (take at area ++ (b ∷ [])) ≡ take at area ++ (b ∷ []) = take_all (length area) _ (omega arith) in
    record {
      count = sym (ap length whole ∙ size);
      bytes = rw (whole, add-one) (set_split area at b h ∙ sym (append_snoc (take at area) b (drop (suc at) area)));
    }

-- and one that has none
pub put_full : (area : List ℕ) (at : ℕ) (more : List ℕ) → length area ≤ at → Puts area at more (length area) area
unfolding with
put_full area at more h =
    let all : take at area ≡ area = take_all at area h in
    let same : take (length area) (take at area ++ more) ≡ area =
    ap (λ (t : List ℕ). take (length area) (t ++ more)) all
    ∙ take-append-le (length area) area more (omega arith)
    ∙ take_all (length area) area (omega arith) in
    record { count = sym (ap length same); bytes = rw (same, drop-length) (sym (append-nil area)) }

-- nothing more
pub put-nothing : (area : List ℕ) (at r : ℕ) → r ≡ min at (length area) → Puts area at [] r area
unfolding with
put-nothing area at r e = subst (λ (k : ℕ). Puts area at [] k area) (sym e) (by (dec_le (length area) at))
  where
    short : at ≤ length area → Puts area at [] at area
    short h =
        let before : length (take at area) ≡ at = length-take-le at area h in
        let same : take (length area) (take at area ++ []) ≡ take at area =
        ap (take (length area)) (append-nil (take at area)) ∙ take_all (length area) (take at area) (omega arith) in
        record { count = sym (ap length same ∙ before); bytes = rw same (sym (take-append-drop at area)) }

    by : Dec (length area ≤ at) → Puts area at [] (min at (length area)) area
    by (yes h) = rw (min_comm at (length area), min-eq_left h) (put_full area at [] h)
    by (no h) = let l : at ≤ length area = omega (arith, h) in rw (min-eq_left l) (short l)

-- what was put to the start of an area that has room for it
pub record Whole (area more : List ℕ) (r : ℕ) (area' : List ℕ) : Type 0 where
  pub count : r ≡ length more
  pub bytes : area' ≡ more ++ drop (length more) area

pub put_whole : {area area' more : List ℕ} {r : ℕ} → length more ≤ length area → Puts area 0 more r area' → Whole area more r area'
unfolding with
put_whole {area} {area'} {more} {r} h p =
    let all : take (length area) more ≡ more = take_all (length area) more h in
    let size : r ≡ length more = p.count ∙ ap length all in
    record { count = size; bytes = p.bytes ∙ ap (λ (t : List ℕ). t ++ drop r area) all ∙ ap (λ (k : ℕ). more ++ drop k area) size }

-- what was put after the first bytes of an area that has room for it
pub record Within (area : List ℕ) (at : ℕ) (more : List ℕ) (r : ℕ) (area' : List ℕ) : Type 0 where
  pub count : r ≡ at + length more
  pub text : take r area' ≡ take at area ++ more
  pub rest : drop r area' ≡ drop r area

pub put-within : {area area' more : List ℕ} {at r : ℕ} → at + length more ≤ length area → Puts area at more r area' → Within area at more r area'
unfolding with
put-within {area} {area'} {more} {at} {r} h p =
    let w : List ℕ = take at area ++ more in
    let size : length w ≡ at + length more = omega (arith, length-append (take at area) more, length-take-le at area (omega arith)) in
    let all : take (length area) w ≡ w = take_all (length area) w (omega arith) in
    let count : r ≡ length w = p.count ∙ ap length all in
    let bytes : area' ≡ w ++ drop r area = p.bytes ∙ ap (λ (t : List ℕ). t ++ drop r area) all in
    record {
      count = count ∙ size;
      text = ap (take r) bytes ∙ take_at w (drop r area) r (sym count);
      rest = ap (drop r) bytes ∙ drop_at w (drop r area) r (sym count);
    }

-- ---- digits

digit-more : (bytes : List ℕ) (k d : ℕ) → suc k ≤ length bytes → drop k (set bytes k d) ≡ d ∷ drop (suc k) bytes
digit-more bytes k d h =
    let l : k < length bytes = omega arith in
    rw (drop-cons (set bytes k d) k 0 (rw length-set l), get_or-set_same bytes k d 0 l, drop-set-lt (suc k) bytes k d (omega arith))

pub last-digit : (k rest : ℕ) (tail : List ℕ) → rest < 10 → digits_before (suc k) rest tail ≡ (48 + rest % 10) ∷ tail
unfolding digits_before
last-digit k rest tail h = pick_true (ltb rest 10) _ _ (lt-ltb rest 10 h)

pub more-digits : (k rest : ℕ) (tail : List ℕ) → 10 ≤ rest → digits_before (suc k) rest tail ≡ digits_before k (rest / 10) ((48 + rest % 10) ∷ tail)
unfolding digits_before
more-digits k rest tail h = pick-false (ltb rest 10) _ _ (le-ltb rest 10 h)

-- the first digit
pub digits_last : (bytes : List ℕ) (i rest d : ℕ) (written : List ℕ) → i ≤ length bytes → 0 < i → rest < 10 → d ≡ 48 + rest % 10
    → written ≡ digits_before i rest (drop i bytes) → drop (i - 1) (set bytes (i - 1) d) ≡ written
digits_last bytes i rest d written h some small ed ew =
    let k : ℕ = i - 1 in
    let s : i ≡ suc k = omega arith in
    digit-more bytes k d (omega arith)
    ∙ rw ed (sym (last-digit k rest (drop (suc k) bytes) small))
    ∙ ap (λ (j : ℕ). digits_before j rest (drop j bytes)) (sym s)
    ∙ sym ew

-- a digit that has others before it
pub digits_more : (bytes : List ℕ) (i rest d : ℕ) (written : List ℕ) → i ≤ length bytes → 0 < i → 10 ≤ rest → d ≡ 48 + rest % 10
    → written ≡ digits_before i rest (drop i bytes) → written ≡ digits_before (i - 1) (rest / 10) (drop (i - 1) (set bytes (i - 1) d))
digits_more bytes i rest d written h some large ed ew =
    let k : ℕ = i - 1 in
    let s : i ≡ suc k = omega arith in
    ew
    ∙ ap (λ (j : ℕ). digits_before j rest (drop j bytes)) s
    ∙ more-digits k rest (drop (suc k) bytes) large
    ∙ ap (digits_before k (rest / 10)) (ap (λ (x : ℕ). x ∷ drop (suc k) bytes) (sym ed) ∙ sym (digit-more bytes k d (omega arith)))

-- ---- numbers with a sign

pub signed_below : (z : ℤ) → SFits w32 z → lt_z (to_z w32 (of_z w32 z)) (pos 0) ≡ true → 45 ∷ decimal (nat_abs (to_z w32 (of_z w32 z))) ≡ signed z
unfolding signed
signed_below (pos n) s e = absurd (omega (arith, ltb-true n 0 (rw (to_z-of_z w32 (pos n) s) at e)))
signed_below (negsuc k) s e = rw (to_z-of_z w32 (negsuc k) s)

pub signed-from-zero : (z : ℤ) → SFits w32 z → lt_z (to_z w32 (of_z w32 z)) (pos 0) ≡ false → decimal (nat_abs (to_z w32 (of_z w32 z))) ≡ signed z
unfolding signed
signed-from-zero z s e = let k = natural z s (rw (to_z-of_z w32 z s) at e) in rw (to_z-of_z w32 z s, k.same)

-- ---- numbers after commas

pub commas-more : (values : List ℤ) (i : ℕ) → i < length values
    → after_commas (take (i + 1) values) ≡ after_commas (take i values) ++ (44 ∷ signed (entry values i))
unfolding after_commas
commas-more [] i h = absurd (omega arith)
commas-more (z ∷ zs) zero h = append-nil (44 ∷ signed z)
commas-more (z ∷ zs) (suc i) h =
    let e : suc i + 1 ≡ suc (i + 1) = omega arith in
    rw e (ap (λ (t : List ℕ). (44 ∷ signed z) ++ t) (commas-more zs i (omega arith)) ∙ sym (append_assoc (44 ∷ signed z) _ _))

pub listed-some : (values : List ℤ) → 0 < length values → signed (entry values 0) ++ after_commas (drop 1 values) ≡ listed values
unfolding listed
listed-some [] h = absurd (omega arith)
listed-some (z ∷ zs) h = refl

pub listed-none : (values : List ℤ) → length values ≡ 0 → [] ≡ listed values
unfolding listed
listed-none [] h = refl
listed-none (z ∷ zs) h = absurd (omega arith)

-- ---- places in use

-- `&values[0..r]`, r being `n.min(places)`
pub in_use : {A : Type 0} (values : List A) (places n r : ℕ) → length values ≡ places → r ≡ min n places → take (r - 0) (drop 0 values) ≡ take n values
in_use values places n r e h = first-in-use values places n r e (λ l. h ∙ min-eq_left l) (λ l. h ∙ min_comm n places ∙ min-eq_left l)

pub in-use-le : (places n r : ℕ) → r ≡ min n places → r ≤ places
in-use-le places n r h = by (dec_le places n)
  where
    by : Dec (places ≤ n) → r ≤ places
    by (yes l) = omega (arith, h ∙ min_comm n places ∙ min-eq_left l)
    by (no l) = let k : n ≤ places = omega (arith, l) in omega (arith, h ∙ min-eq_left k)

-- Laws of what is printed of a script. Assumes nothing.
use mathlib.Core.Path.{◌≡◌, sym, ap, ◌∙◌, subst}
use mathlib.Core.List.{List, ◌++◌}
use Prim.Native.Nat.{ℕ, ◌+◌, ◌-◌, ◌≤◌}
use native.Mathlib.Omega.{arith}
use lib.ListN.{length, drop, take, take-append-drop}
use lib.Seq.{drop-drop, length-take-le}
use Rattle.text.specs.Printing.{Puts}
use Rattle.text.proofs.PrintingLaws.{put-within, put_whole}
use Rattle.script.specs.Script.{Prints}

-- an area whose first bytes are what is printed, and whose others are as they were
pub prints : (printed : List ℕ) (r : ℕ) (area area' : List ℕ) → printed ≡ take r area' → r ≤ length area' → drop r area' ≡ drop r area → Prints printed r area area'
prints printed r area area' e h rest =
    let count : r ≡ length printed = sym (ap length e ∙ length-take-le r area' h) in
    record {
      count = count;
      bytes = sym (take-append-drop r area') ∙ ap (λ (t : List ℕ). t ++ drop r area') (sym e) ∙ ap (λ (t : List ℕ). printed ++ t) (rest ∙ ap (λ
          (n : ℕ). drop n area) count);
    }

pub prints-same : {printed printed' area area' : List ℕ} {r : ℕ} → printed ≡ printed' → Prints printed r area area' → Prints printed' r area area'
prints-same {printed} {printed'} {area} {area'} {r} e p = subst (λ (t : List ℕ). Prints t r area area') e p

-- of an area to whose start something was put before
pub prints-after : (printed : List ℕ) (r start : ℕ) (first area area₁ area' : List ℕ) → Puts area 0 first start area₁ → length first ≤ length area
    → Prints printed r area₁ area' → start ≤ r → Prints printed r area area'
prints-after printed r start first area area₁ area' p h q l =
    let w = put-within (omega arith) p in
    let k : ℕ = length printed - start in
    let e : length printed ≡ start + k = omega (arith, q.count) in
    let same : drop (length printed) area₁ ≡ drop (length printed) area =
    ap (λ (n : ℕ). drop n area₁) e ∙ sym (drop-drop k start area₁) ∙ ap (drop k) w.rest ∙ drop-drop k start area ∙ ap (λ (n : ℕ). drop n area) (sym e) in
    record { count = q.count; bytes = q.bytes ∙ ap (λ (t : List ℕ). printed ++ t) same }

-- what is put to the start of an area that has room for it is printed
pub puts-prints : {area area' more : List ℕ} {r : ℕ} → length more ≤ length area → Puts area 0 more r area' → Prints more r area area'
puts-prints h p = let w = put_whole h p in record { count = w.count; bytes = w.bytes }

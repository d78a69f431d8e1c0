-- Demand 3 with power cycles is the special case of lists without asks and commits, whatever answers count as ok. Assumes nothing.
use mathlib.Core.Path.{◌≡◌, refl, sym, ap, ◌∙◌, subst}
use mathlib.Core.Logic.{◌⊎◌}
use mathlib.Core.Bool.{not, ◌||◌}
use mathlib.Core.Option.{Option, none, some}
use mathlib.Core.List.{List, [], ◌∷◌, map}
use Prim.Native.Nat.{ℕ}
use lib.Dec.{T, T_not, eqb}
use Rattle.lists.proofs.Booleans.{nor-right}
use Rattle.lists.proofs.Choice.{pick-ok}
use Rattle.scram.specs.Held.{Law}
use Rattle.scram.specs.History.{System, Issued, In}
use Rattle.tickets.specs.Tickets.{Tickets}
use Rattle.tickets.proofs.Void.{Void, step-void}
use Rattle.power.specs.Demand3 as Power
use Rattle.power.specs.Demand3.{Event, Store, FrameLeaves, CommandLeaves, Return, Storage, put}
use Rattle.power.specs.Asks.{Unasked, tickets_back, Answering, Reached, ok_at, unasked, step, steps, start, after, Demand3}
use Rattle.power.proofs.Plain.{pick_no}

module _ {State Readings Values : Type 0} (system : System State Readings Values) (law : Law State Readings Values) (storage : Storage system)
    (ok : Answering system) where
  abbrev W : Type 0
  W = Reached system law storage ok

  -- no ticket can be committed, and nothing was asked for
  record Quiet (w : W) : Type 0 where
    void : (i : ℕ) → Void (w.tickets i)
    none_asked : (n : ℕ) → T (not (w.asked n))

  put-void : (f : ℕ → Tickets ℕ) (i : ℕ) (t : Tickets ℕ) → ((j : ℕ) → Void (f j)) → Void t → (j : ℕ) → Void (put f i t j)
  put-void f i t h n j = pick-ok (λ (z : Tickets ℕ). Void z) (eqb j i) t (f j) (λ _. n) (λ _. h j)

  back-void : (t : Tickets ℕ) (o : Option system.Box) → Void t → Void (tickets_back t o)
  back-void t none n = n
  back-void t (some c) n = tt

  -- so it is after an entry of L4, which does what it does there
  abbrev Alike : W → Power.Reached system law storage → Type 0
  Alike w u = Quiet w × (w.plain ≡ u)

  entry-alike : (w : W) → Quiet w → (e : Power.Entry system.Handed system.Areas)
      → Alike (unasked system law storage ok w e) (Power.step system law storage w.plain e)
  entry-alike w q (Event e) =
      pick-ok (λ z. Alike z (Power.step system law storage w.plain (Event e))) (ok_at system law storage ok w e || not t.pending) _ _
      (λ u. (
        record { void = put-void w.tickets e.box _ q.void (step-void t (ok_at system law storage ok w e) u); none_asked = q.none_asked },
        refl,
      ))
      (λ u. absurd (T_not (not t.pending) (nor-right (ok_at system law storage ok w e) (not t.pending) u) (q.void e.box)))
    where
      t : Tickets ℕ
      t = w.tickets e.box
  entry-alike w q (Store n) = (record { void = q.void; none_asked = q.none_asked }, refl)
  entry-alike w q (FrameLeaves n) = (record { void = q.void; none_asked = q.none_asked }, pick_no (w.asked n) _ _ (q.none_asked n))
  entry-alike w q (CommandLeaves n) = (record { void = q.void; none_asked = q.none_asked }, pick_no (w.asked n) _ _ (q.none_asked n))
  entry-alike w q (Return i k) = (
    record {
      void = put-void w.tickets i _ q.void (back-void (w.tickets i) (storage.back (w.plain.boxes i).stored.box k) (q.void i));
      none_asked = q.none_asked;
    },
    refl,
  )

  -- ---- the whole list

  steps_alike : (w : W) (u : Power.Reached system law storage) → Alike w u → (h : List (Power.Entry system.Handed system.Areas))
      → (steps system law storage ok w (map Unasked h)).plain ≡ Power.steps system law storage u h
  unfolding steps step Power.steps
  steps_alike w u (q, e) [] = e
  steps_alike w u (q, e) (x ∷ h) =
      let (q', e') = entry-alike w q x in
      steps_alike (unasked system law storage ok w x) (Power.step system law storage u x) (q', e' ∙ ap (λ z. Power.step system law storage z x) e) h

  -- a list without asks and commits leads where it leads in L4
  pub after-unasked : (h : List (Power.Entry system.Handed system.Areas))
      → (after system law storage ok (map Unasked h)).plain ≡ Power.after system law storage h
  unfolding after Power.after
  after-unasked h =
      steps_alike (start system law storage ok) (Power.start system law storage) (record { void = λ i. tt; none_asked = λ n. tt }, refl) h

  -- a period that is 0, or that of a command that left
  abbrev IsLast : ℕ → Power.Reached system law storage → Type 0
  IsLast k w = (k ≡ 0) ⊎ ((c : Issued system.Box) × In c w.issued × (system.command_period c.bytes ≡ k))

  -- demand 3 with power cycles
  pub special : (h : List (Power.Entry system.Handed system.Areas)) → Demand3 system law storage ok (map Unasked h)
      → Power.Demand3 system law storage h
  special h d = record {
    last = d.last;
    bounded = d.bounded;
    row = d.row;
    handed = λ k l m. let f = d.handed k l m in record {
      box = f.box;
      before = f.before;
      later = f.later;
      whole = ap (λ z. (z.boxes f.box).now.rows) (sym (after-unasked h)) ∙ f.whole;
      kth = f.kth;
    };
    decided = λ c q. d.decided c (subst (λ z. In c z.issued) (sym (after-unasked h)) q);
    is_last = subst (IsLast d.last) (after-unasked h) d.is_last;
  }

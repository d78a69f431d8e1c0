-- The replicas of every history are in order: a record brings them back as they are. Assumes nothing.
use mathlib.Core.Path.{◌≡◌, refl, sym, ap, ◌∙◌, subst}
use mathlib.Core.Logic.{◌⊎◌, inl, inr}
use mathlib.Core.Bool.{Bool, true, false, not, ◌||◌}
use mathlib.Core.List.{List}
use Prim.Native.Nat.{ℕ}
use native.Mathlib.Omega.{arith}
use lib.ListN.{length}
use borrow.Author.Tests.{le-leb}
use Rattle.lists.proofs.Below.{all_of}
use Rattle.readings.proofs.Normalised.{normalised-marks, normalised-values}
use Rattle.scram.specs.Quorum.{among}
use Rattle.quorums.specs.declared.Quorums.{Quorums}
use Rattle.law.specs.declared.Settings as Law
use Rattle.estimate.specs.declared.Estimate.{Estimate}
use Rattle.estimate.proofs.RoundTrip.{carried-whole}
use Rattle.replica.specs.declared.Held.{Held}
use Rattle.replica.specs.declared.Replica.{Replica}
use Rattle.replica.specs.Settings.{settings_refusal, law_of}
use Rattle.replica.specs.Held.{estimate_in, best_in, held_in, best_of}
use Rattle.records.specs.Recording.{no_best}
use Rattle.records.specs.Reading.{is_box, heard_ok, bases_ok}
use Rattle.records.specs.InOrder.{TypedSettings, CarriedWhole, BestOf, HeldInOrder, InOrder}
use Rattle.group.specs.Group.{settings_of}
use Rattle.group.proofs.Typed.{EstimateOk, Typed}
use Rattle.group.proofs.Ordered.{InGroup, HeardBoxes, BestHeard, Ordered, best-bases}
use Rattle.group.proofs.Reread.{first-states}
use Rattle.group.proofs.Calls.{Kept}

-- ---- boxes

is-box : (N j : ℕ) → InGroup N j → is_box N j ≡ true
is-box N j g = rw (le-leb 1 j g.0, le-leb j N g.1)

heard-ok : (N : ℕ) (heard : List Bool) → HeardBoxes N heard → heard_ok N heard ≡ true
unfolding heard_ok
heard-ok N heard o = all_of (λ j. not (among heard j) || is_box N j) 10 (λ j _. by j (among heard j) (o.boxes j))
  where
    by : (j : ℕ) (b : Bool) → (b ≡ true → InGroup N j) → (not b || is_box N j) ≡ true
    by j true g = is-box N j (g refl)
    by j false g = refl

module _ (N : ℕ) (q : Quorums) (law : Law.Settings) where
  -- ---- settings

  -- the tables are those of box 1
  settings-typed : (i : ℕ) → TypedSettings (settings_of N q law 1) → TypedSettings (settings_of N q law i)
  settings-typed i t = record {
    a-length = t.a-length;
    l-length = t.l-length;
    c-length = t.c-length;
    k-length = t.k-length;
    low-length = t.low-length;
    high-length = t.high-length;
    start-length = t.start-length;
    a = t.a;
    l = t.l;
    c = t.c;
    k = t.k;
    low = t.low;
    high = t.high;
    start = t.start;
  }

  -- ---- what is held

  estimate-whole : (x : Estimate) → EstimateOk law (estimate_in x) → CarriedWhole law.n law.m x
  estimate-whole x o = record {
    typed = record {
      state-length = o.state.six;
      state = o.state.i32;
      marks-length = ap (λ y. length y.present) (sym o.readings.row) ∙ normalised-marks law.m x.readings;
      values_length = ap (λ y. length y.values) (sym o.readings.row) ∙ normalised-values law.m x.readings;
      values = o.readings.i32;
    };
    whole = carried-whole law.n law.m x (first-states law.n x.state o.state.six o.state.beyond) o.readings.row;
  }

  module _ (h : Held) where
    bases-ok : Ordered (law_of law) N (held_in h) → bases_ok h ≡ true
    unfolding bases_ok
    bases-ok o =
        let b = best-bases (law_of law) N (held_in h) o in
        rw (
          le-leb h.base_view h.view o.bases.view,
          le-leb h.base_period h.period o.bases.period,
          le-leb h.best.base_view h.view b.view,
          le-leb h.best.base_period h.period b.period,
        )

    best-heard : BestHeard (law_of law) N h.period h.view (best_in h.best) → (h.best ≡ no_best) ⊎ BestOf N h.best
    best-heard (inl e) = inl (ap best_of e)
    best-heard (inr q) = inr (record { any = q.any; box = is-box N h.best.box_number q.box })

    held-in-order : Typed law (held_in h) → Ordered (law_of law) N (held_in h) → HeldInOrder N law.n law.m h
    held-in-order t o = record {
      period = omega (arith, t.counters.period);
      view = omega (arith, t.counters.view);
      ten = o.heard.ten;
      heard = heard-ok N h.heard o.heard;
      bases = bases-ok o;
      estimate = estimate-whole h.estimate t.estimate;
      best_estimate = estimate-whole h.best.estimate t.best;
      best = best-heard o.best;
    }

  -- a replica of a box of the group, whatever the history
  pub kept-in-order : TypedSettings (settings_of N q law 1) → (i : ℕ) (c : Replica) → settings_refusal (settings_of N q law i) ≡ 0 → Kept N q law i c → InOrder c
  kept-in-order t i c e k =
      subst InOrder (λ j. record { settings = sym k.settings j; held = c.held })
      (record { settings = settings-typed i t; stands = e; held = held-in-order c.held k.typed k.ordered })

-- Demand 3 with power cycles holds of any implementation whose calls show the protocol's steps and whose returning shows missed ticks: its
-- lists are those without asks and commits, and of lists with them too the theorem holds (Asked). Assumes nothing.
use mathlib.Core.Path.{◌≡◌, ap, sym, ◌∙◌, subst}
use mathlib.Core.Bool.{true}
use mathlib.Core.List.{List, map}
use Prim.Native.Nat.{ℕ, ◌+◌, ◌<◌}
use Rattle.scram.specs.Held.{Law, Group, Message}
use Rattle.scram.specs.History.{System, Issued, In}
use Rattle.scram.specs.Shown.{Shown}
use Rattle.power.specs.Demand3.{Entry, Storage, Reached, after, Demand3}
use Rattle.power.specs.Returns.{Returns}
use Rattle.power.specs.Asks.{Unasked, Answering}
use Rattle.power.proofs.Paths.{Premises}
use Rattle.power.proofs.Asked as Asked
use Rattle.power.proofs.Asked.{decided-alike}
use Rattle.power.proofs.Unasked.{after-unasked, special}

module _ {State Readings Values : Type 0} (p : Premises State Readings Values) where
  abbrev system : System State Readings Values
  system = p.system

  abbrev law : Law State Readings Values
  law = p.law

  abbrev storage : Storage system
  storage = p.storage

  -- where nothing is asked, it is all one which answers are ok
  abbrev ok : Answering system
  ok c e a = true

  -- ---- what the calls keep

  -- it holds of each box's replica
  pub now-kept : (h : List (Entry system.Handed system.Areas)) (i : ℕ) → p.Kept i ((after system law storage h).boxes i).now.box
  now-kept h i = subst (λ z. p.Kept i (z.boxes i).now.box) (after-unasked system law storage ok h) (Asked.now-kept p ok (map Unasked h) i)

  -- and of the one whose record was stored last
  pub stored-kept : (h : List (Entry system.Handed system.Areas)) (i : ℕ)
      → (c : system.Box) × (((after system law storage h).boxes i).stored.box ≡ storage.recorded c) × p.Kept i c
  stored-kept h i =
      let (c, e, k) = Asked.stored-kept p ok (map Unasked h) i in
      (c, ap (λ (z : Reached system law storage). (z.boxes i).stored.box) (sym (after-unasked system law storage ok h)) ∙ e, k)

  -- ---- demand 3

  pub for-premises : p.group.size < p.group.to_decide + p.group.to_propose → (h : List (Entry system.Handed system.Areas))
      → Demand3 system law storage h
  for-premises quorums h = special system law storage ok h (Asked.demand-3 p ok quorums (map Unasked h))

-- DEMAND 3 WITH POWER CYCLES: of any list, for a + b > N
pub demand-3 : {State Readings Values : Type 0} (system : System State Readings Values) (Kept : ℕ → system.Box → Type 0)
    (Carried : Message State Readings → Type 0) (law : Law State Readings Values) (group : Group) → Shown system Kept Carried law group
    → (storage : Storage system) → Returns system Kept law storage → group.size < group.to_decide + group.to_propose
    → (h : List (Entry system.Handed system.Areas)) → Demand3 system law storage h
demand-3 system Kept Carried law group shown storage returns =
    for-premises (record {
      system = system;
      Kept = Kept;
      Carried = Carried;
      law = law;
      group = group;
      shown = shown;
      storage = storage;
      returns = returns;
    })

-- all commands of one period that left, which their bytes have, are alike to the last byte
pub commands-alike : {State Readings Values : Type 0} (system : System State Readings Values) (law : Law State Readings Values)
    (storage : Storage system) (h : List (Entry system.Handed system.Areas)) → Demand3 system law storage h → (c d : Issued system.Box)
    → In c (after system law storage h).issued → In d (after system law storage h).issued
    → system.command_period c.bytes ≡ system.command_period d.bytes → c.bytes ≡ d.bytes
commands-alike system law storage h run c d q r e =
    decided-alike system law run.last run.row c d (run.decided c q) (run.decided d r) e

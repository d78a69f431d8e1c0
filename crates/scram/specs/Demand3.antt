-- Demand 3 (document 01, "The history of demand 3"): for any list of events, all commands of one period are alike to the last byte, and
-- the decided states are states of one run of a single controller.
use Rattle.std.specs.Prelude.{◌≡◌, ◌⊎◌, false, List, ◌∷◌, ◌++◌, ℕ, zero, suc, ◌-◌, ◌≤◌}
use Rattle.scram.specs.Held.{Law, Tick}
use Rattle.scram.specs.Events.{largest}
use Rattle.scram.specs.History.{System, Entry, Issued, In, after}

-- ---- the single controller, fed row k in step k

module _ {State Readings Values : Type 0} (law : Law State Readings Values) (row : ℕ → Readings) where
  -- "The single controller holds one state, at first the starting state." "Step k makes the state Update(state, row k)"
  unfoldable pub controller : ℕ → State
  controller zero = law.start
  controller (suc k) = law.update (controller k) (row (suc k))

  -- "command k is the law's command of the new state". The new state is Update(state, row k), and for the fixed law `law.command x y` is
  -- the command of Update(x, y): so it is the law's command of its state after k − 1 steps and row k. It is stated of the two, and not of
  -- the new state alone, since a command may tell more of the update that led there than the state does.
  unfoldable pub controller_command : ℕ → Values
  controller_command k = law.command (controller (k - 1)) (row k)

-- ---- the claim

module _ {State Readings Values : Type 0} (system : System State Readings Values) where
  -- "Row k is one that some box was handed for period k: by that box's k-th tick not refused." "In the run of demand 3 a reading means its
  -- converted value.": `system.row` is the row of what was handed, as the law reads it.
  pub record HandedFor (h : List (Entry system.Handed system.Areas)) (k : ℕ) (y : Readings) : Type 0 where
    pub box : ℕ
    pub handed : system.Handed
    pub areas : system.Areas
    pub before : List (Entry system.Handed system.Areas)
    pub later : List (Entry system.Handed system.Areas)
    pub whole : h ≡ before ++ (record { box = box; event = Tick handed; areas = areas } ∷ later)
    pub taken : (system.call ((after system before).box box) (Tick handed) areas).refused ≡ false
    pub kth : k ≡ suc ((after system before).ticks box)
    pub same : y ≡ system.row handed

  module _ (law : Law State Readings Values) where
    -- "A step decides period k if it writes a command with period k": k is read from the command's bytes, and the replica that this step
    -- gives back is in that period too. "each decided state of period k is the controller's after step k, and each command written for k
    -- holds its command k, byte for byte". "Its decided state is Update of the estimate's state and readings in the replica that this
    -- step gives back."
    pub record Decided (last : ℕ) (row : ℕ → Readings) (c : Issued system.Box) : Type 0 where
      pub period : ℕ
      pub from1 : 1 ≤ period
      pub most : period ≤ last
      pub written : system.command_period c.bytes ≡ period
      pub held : (system.held c.box).period ≡ period
      pub state : law.update (system.held c.box).estimate.state (system.held c.box).estimate.readings ≡ controller law row period
      pub bytes : c.bytes ≡ system.command_bytes (record { period = period; values = controller_command law row period })

    -- "It is fed one row of readings for each period from 1 to the last one decided." "One choice of rows serves all decided periods". No
    -- period is above the largest of 32 bits, and the last one, where any was decided, is that of a command written.
    pub record Demand3 (h : List (Entry system.Handed system.Areas)) : Type 0 where
      pub last : ℕ
      pub bounded : last ≤ largest
      pub row : ℕ → Readings
      pub handed : (k : ℕ) → 1 ≤ k → k ≤ last → HandedFor h k (row k)
      pub decided : (c : Issued system.Box) → In c (after system h).issued → Decided last row c
      pub is_last : (last ≡ 0) ⊎ ((c : Issued system.Box) × In c (after system h).issued × (system.command_period c.bytes ≡ last))

-- Worked frames: the case P8 of document 01, and a Propose with 4 states and 2 readings.
use Rattle.std.specs.Prelude.{ℕ, ◌≡◌, true, false, List, [], ◌∷◌, ◌++◌, replicate, pos, negsuc}
use Rattle.estimate.specs.Fields.{no_estimate}
use Rattle.frame.specs.Format.{frame_bytes}
use Rattle.frame.specs.Kinds.{propose, ack}
use Rattle.frame.specs.declared.Frame.{Frame}

-- a frame of n states and m readings, and its bytes
pub record Case : Type 0 where
  pub n : ℕ
  pub m : ℕ
  pub frame : Frame
  pub bytes : List ℕ

-- "P8 Ack of box 2, period 1, view 0: `02 02 00 00 01`, then fifteen `00`", whatever n and m are
unfoldable pub ack_case : ℕ → ℕ → Case
ack_case n m =
    record {
      n = n;
      m = m;
      frame =
          record {
            kind = ack.number;
            sender = 2;
            period = 1;
            view = 0;
            base_view = 0;
            base_period = 0;
            estimate = no_estimate;
          };
      bytes = 2 ∷ 2 ∷ 0 ∷ 0 ∷ 1 ∷ replicate 15 0;
    }

-- a Propose of box 3, period 258, view 5; state 1, −1, −2147483648, 2147483647; reading 0 absent, reading 1 is −2: the byte of marks is 2
unfoldable pub propose_case : Case
propose_case =
    record {
      n = 4;
      m = 2;
      frame =
          record {
            kind = propose.number;
            sender = 3;
            period = 258;
            view = 5;
            base_view = 5;
            base_period = 258;
            estimate =
                record {
                  state = pos 1 ∷ negsuc 0 ∷ negsuc 2147483647 ∷ pos 2147483647 ∷ pos 0 ∷ pos 0 ∷ [];
                  readings = record { present = false ∷ true ∷ false ∷ false ∷ []; values = pos 0 ∷ negsuc 1 ∷ pos 0 ∷ pos 0 ∷ [] };
                };
          };
      bytes =
          (1 ∷ 3 ∷ 2 ∷ 0 ∷ [])
          ++ (2 ∷ 1 ∷ 0 ∷ 0 ∷ [])
          ++ (5 ∷ 0 ∷ 0 ∷ 0 ∷ [])
          ++ (5 ∷ 0 ∷ 0 ∷ 0 ∷ [])
          ++ (2 ∷ 1 ∷ 0 ∷ 0 ∷ [])
          ++ (28 ∷ 0 ∷ 16 ∷ 0 ∷ 44 ∷ 0 ∷ 9 ∷ 0 ∷ [])
          ++ (1 ∷ 0 ∷ 0 ∷ 0 ∷ [])
          ++ (255 ∷ 255 ∷ 255 ∷ 255 ∷ [])
          ++ (0 ∷ 0 ∷ 0 ∷ 128 ∷ [])
          ++ (255 ∷ 255 ∷ 255 ∷ 127 ∷ [])
          ++ (2 ∷ [])
          ++ (0 ∷ 0 ∷ 0 ∷ 0 ∷ [])
          ++ (254 ∷ 255 ∷ 255 ∷ 255 ∷ []);
    }

-- the table
unfoldable pub table : ℕ → ℕ → List Case
table n m = ack_case n m ∷ propose_case ∷ []

-- each frame of a table has the bytes that stand beside it
unfoldable pub AllHold : List Case → Type 0
AllHold [] = Unit {0}
AllHold (c ∷ cs) = (frame_bytes c.n c.m c.frame ≡ c.bytes) × AllHold cs

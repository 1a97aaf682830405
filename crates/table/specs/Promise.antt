-- The promise of an analysis, whatever its rows and its rules: its reply and every word of the table after it, for every input and every length of the table.
use Rattle.std.specs.Prelude.{ℕ, ◌-◌, ◌*◌, ◌≤◌, ◌≡◌, List, ◌++◌, length, replicate}
use Rattle.program.specs.Reply.{no_room, refused, done}
use Rattle.program.specs.Faults.{Found, fault, sound}
use Rattle.program.specs.declared.reply.Reply.{Reply}
use Rattle.table.specs.Analysis.{Analysis, Dated, all_words, room_of, IsTable, Exceeds}

-- `found` is what the input comes to, a fault or what `analysis` is of; `size` words of table are lent
pub data PromiseOf {X : Type 0} (analysis : X → Analysis) (found : Found X) (size : ℕ) (reply : Reply) (table : List ℕ) : Type 0 where
  -- "Every refusal zeroes all lent output."
  faulty : (number place : ℕ) → found ≡ fault number place
      → reply ≡ refused number place → table ≡ replicate size 0 → PromiseOf analysis found size reply table
  -- "Accepted is number 0 with place 0", "a count of what was written (the analysis: rows ..)", "Words after the last row are 0."
  listed : (p : X) (entries : List (Dated (analysis p).Row)) → found ≡ sound p → IsTable (analysis p) entries → length entries ≤ room_of (analysis p).size size
      → reply ≡ done (length entries) → table ≡ all_words (analysis p).words entries ++ replicate (size - (analysis p).size * length entries) 0
      → PromiseOf analysis found size reply table
  -- "the result exceeds the room": "the room: rows .."
  full : (p : X) → found ≡ sound p → Exceeds (analysis p) (room_of (analysis p).size size)
      → reply ≡ refused no_room (room_of (analysis p).size size) → table ≡ replicate size 0 → PromiseOf analysis found size reply table

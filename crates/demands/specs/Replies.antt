-- Demand 1, "every input gets a reply", of a function on one input.
use Rattle.std.specs.Prelude.{◌≡◌, ◌↔◌}
use Rattle.program.specs.Reply.{accepted, no_room, withdrawn}
use Rattle.program.specs.declared.reply.Reply.{Reply}

-- P is what the function promises of its reply and of the lent output, `zeros` is that output with zeros alone,
-- and `Larger` says that the complete result is larger than the room
pub record Replies {Out : Type 0} (P : Reply → Out → Type 0) (zeros : Out) (Larger : Type 0) : Type 0 where
  -- "Every input gets a reply."
  pub reply : Reply
  pub left : Out
  pub promised : P reply left
  -- "no second reply satisfies it", and nothing else stands in the lent output
  pub only : (r : Reply) (o : Out) → P r o → (r ≡ reply) × (o ≡ left)
  -- "Accepted is number 0 with place 0"
  pub accepted_place : reply.number ≡ accepted → reply.place ≡ 0
  -- "A refusal gives a number and a place, and all lent output is then zeros."
  pub refused_zeros : (reply.number ≡ accepted → ⊥) → (reply.count ≡ 0) × (left ≡ zeros)
  -- "'No room' exactly when the complete result is larger than the room."
  pub no_room_exactly : (reply.number ≡ no_room) ↔ Larger
  -- "10 is withdrawn, its number unused"
  pub never_withdrawn : reply.number ≡ withdrawn → ⊥

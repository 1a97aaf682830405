-- Demand 1: "Every input gets a reply. Any scenario text, any encoded program; the caller checks nothing first. A refusal gives a number and a place,
-- and all lent output is then zeros. 'No room' exactly when the complete result is larger than the room." `Replies` says this of one input; here it is said of all.
-- None of the four functions has a `requires`; their `ensures` and `Promises` cite the same definitions: `Reads`, `Writes`, `Promise`, `ListingPromise`.
use Prim.Native.Nat.{ℕ}
use mathlib.Core.List.{List}
use lib.ListN.{replicate}
use Rattle.demands.specs.Promises.{Reads, ReadLarger, Writes, WriteLarger, Analyses, AnalyseLarger, Lists, ListLarger}
use Rattle.demands.specs.Replies.{Replies}
use Rattle.demands.proofs.ReadReplies.{reading_replies, writing_replies}
use Rattle.demands.proofs.TableReplies.{analysing_replies, listing_replies}

-- any scenario text, with room for any number of words and of bytes of names
pub read_replies : (text : List ℕ) (words names : ℕ) → Replies (Reads text words names) (replicate words 0, replicate names 0) (ReadLarger text words names)
read_replies = reading_replies

-- any encoded program and any names, with room for any number of bytes
pub write_replies : (words names : List ℕ) (room : ℕ) → Replies (Writes words names room) (replicate room 0) (WriteLarger words names room)
write_replies = writing_replies

-- any encoded program, with a table of any length
pub analyse_replies : (words : List ℕ) (size : ℕ) → Replies (Analyses words size) (replicate size 0) (AnalyseLarger words size)
analyse_replies = analysing_replies

-- any encoded program and any names, with a table of any length and room for any number of bytes
pub list_replies : (words names : List ℕ) (size room : ℕ)
    → Replies (Lists words names size room) (replicate size 0, replicate room 0) (ListLarger words names size room)
list_replies = listing_replies

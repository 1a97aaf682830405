-- From text to text: an accepted text, read and written again, is the same text; its words are a sound program's, and its names are sound for it.
use Prim.Native.Nat.{ℕ, ◌+◌}
use mathlib.Core.Path.{◌≡◌, sym, ap, ◌∙◌}
use mathlib.Core.List.{List}
use lib.ListN.{length}
use Rattle.program.specs.Program.{Program}
use Rattle.program.specs.Faults.{sound, faults}
use Rattle.program.proofs.ProgramWords.{within_sound}
use Rattle.cells.specs.TextSoFar.{right, Scenario}
use Rattle.reader.specs.Read.{read_of}
use Rattle.writer.specs.Names.{names_of}
use Rattle.writer.specs.Write.{write_of}
use Rattle.round_trips.proofs.ReadNames.{names_right}
use Rattle.round_trips.proofs.ReadTexts.{text_read}

-- the words say a program, and the names have no fault for it
pub record SoundScenario (s : Scenario) : Type 0 where
  pub program : Program
  pub accepted : faults s.words ≡ sound program
  pub named : names_of s.names (length program.predicates) (length program.predicates + length program.functions) ≡ right s.names

module _ (text : List ℕ) (s : Scenario) (e : read_of text ≡ right s) where
  abbrev read_program : Program
  read_program = (text_read text s e).program.program

  read_faults : faults s.words ≡ sound read_program
  read_faults =
      let r = text_read text s e in
      sym (ap faults r.program.encoded) ∙ within_sound r.program.program (r.program.within r.short)

  read_named : names_of s.names (length read_program.predicates) (length read_program.predicates + length read_program.functions) ≡ right s.names
  read_named = names_right s.names (length read_program.predicates) (length read_program.functions) (text_read text s e).program.named

  -- what is read of an accepted text is a sound program with sound names
  pub read_sound : SoundScenario s
  read_sound = record { program = read_program; accepted = read_faults; named = read_named }

  -- an accepted text, read and written again, is the same text, byte for byte
  pub read_write : write_of s.words s.names ≡ right text
  unfolding write_of
  read_write = rw (read_faults, read_named) (ap right (text_read text s e).program.written)

-- two texts that are read as one program with the same names are one text
pub read_once : (text text' : List ℕ) (s : Scenario) → read_of text ≡ right s → read_of text' ≡ right s → text ≡ text'
read_once text text' s e e' =
    let one = read_write text s e in
    let other = read_write text' s e' in
    cc

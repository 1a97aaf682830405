-- What stands in the words and in the text as the code walks. For the code alone.
use Rattle.std.specs.Prelude.{ℕ, ◌+◌, ◌*◌, ◌≤◌, ◌<◌, ◌≡◌, cond, List, length, drop, get_or, ltb}
use Rattle.terms.specs.Cells.{first_variable}
use Rattle.text.specs.Name.{name_bytes, max_names}
use Rattle.text.specs.Put.{Put}
use Rattle.written_lines.specs.declared.walked.Walked.{Walked}

-- name number n stands in the names
pub record NameAt (names : List ℕ) (n : ℕ) : Type 0 where
  pub few : n < max_names
  pub within : n * name_bytes + name_bytes ≤ length names

-- the names of so many predicates and functions
pub record Named (names : List ℕ) (predicates functions : ℕ) : Type 0 where
  pub few : predicates + functions ≤ max_names
  pub size : length names ≡ (predicates + functions) * name_bytes

-- how many terms a cell asks for
abbrev pub arity_of : List ℕ → ℕ → ℕ
arity_of functions cell = cond (ltb cell first_variable) (get_or functions cell 0) 0

-- the text of a part of the words is written, and the rest of the words is to come
pub record Written (text rest words before after : List ℕ) (end : ℕ) (r : Walked) : Type 0 where
  pub to_come : drop r.at words ≡ rest
  pub within : r.at ≤ length words
  pub put : Put text before after end r.end

-- What is known of the text so far: a program without its goal, within the limits and with sound names, whose sections are what was read.
use Prim.Native.Nat.{ℕ, ◌+◌, ◌≤◌, ◌<◌}
use native.Mathlib.Omega.{arith}
use mathlib.Core.Path.{◌≡◌, refl, sym, ap, ◌∙◌}
use mathlib.Core.Bool.{◌||◌}
use mathlib.Core.List.{List, [], ◌∷◌, append_assoc}
use lib.ListN.{length, get_or}
use lib.Dec.{eqb, ltb}
use borrow.Author.Tests.{ltb-true, eqb-true}
use Rattle.terms.specs.Cells.{enc}
use Rattle.program.specs.Limits.{max_declared, max_arity}
use Rattle.program.specs.Reply.{out_of_range, ill_formed}
use Rattle.program.specs.Program.{Clause}
use Rattle.program.specs.Within.{Each, none, encode_atoms, encode_clauses, WithinClause}
use Rattle.text_lines.specs.Keyword.{pred, func, clause}
use Rattle.cells.specs.TextSoFar.{Read, right, pred_section, func_section, TextSoFar, nothing, count, later}
use Rattle.declarations.specs.Declarations.{may_come, opens}
use Rattle.written_lines.specs.Lines.{declaration_fields, clause_fields}
use Rattle.round_trips.proofs.Tokens.{both_true}
use Rattle.round_trips.proofs.ReadParts.{first_right}
use Rattle.round_trips.proofs.ReadNames.{SoundNames, no_names}
use Rattle.round_trips.proofs.Sections.{Section, SoFar, Items, section_of}

-- a program as far as it was read: all but its goal
pub record Begun : Type 0 where
  pub predicates : List ℕ
  pub functions : List ℕ
  pub clauses : List Clause

-- the declarations alone, and how many sections stand behind them
abbrev pub declared_only : List ℕ → List ℕ → Begun
declared_only ps fs = record { predicates = ps; functions = fs; clauses = [] }

abbrev pub others_behind : ℕ
others_behind = 1

abbrev pub declaration_items : List ℕ → List ℕ → Items ℕ
declaration_items keyword names =
    record { keyword = keyword; fields = declaration_fields names; word = λ arity. arity ∷ []; words = λ arities. arities; none = refl; first = λ arity arities. refl }

abbrev pub clause_items : List ℕ → ℕ → Items Clause
clause_items names predicates =
    record {
      keyword = clause;
      fields = clause_fields names predicates;
      word = λ c. length c.body ∷ encode_atoms (c.head ∷ c.body);
      words = encode_clauses;
      none = refl;
      first = λ c cs. ap (λ (l : List ℕ). length c.body ∷ l) (sym (append_assoc (enc c.head) (encode_atoms c.body) (encode_clauses cs)));
    }

-- the sections of a program, with its names
abbrev pub predicates_of : List ℕ → List ℕ → Section
predicates_of names ps = section_of (declaration_items pred names) 0 ps

abbrev pub functions_of : List ℕ → ℕ → List ℕ → Section
functions_of names predicates fs = section_of (declaration_items func names) predicates fs

abbrev pub clauses_of : List ℕ → ℕ → List Clause → Section
clauses_of names predicates cs = section_of (clause_items names predicates) 0 cs

abbrev pub sections_of : List ℕ → Begun → List Section
sections_of names b =
    predicates_of names b.predicates
    ∷ functions_of names (length b.predicates) b.functions
    ∷ clauses_of names (length b.predicates) b.clauses
    ∷ []

pub record WithinSoFar (b : Begun) : Type 0 where
  pub predicates_most : length b.predicates ≤ max_declared
  pub functions_most : length b.functions ≤ max_declared
  pub clauses_most : length b.clauses ≤ max_declared
  pub predicate_arities : Each (λ arity. arity ≤ max_arity) b.predicates
  pub function_arities : Each (λ arity. arity ≤ max_arity) b.functions
  pub clauses_within : Each (WithinClause b.predicates b.functions) b.clauses

pub record ReadSoFar (t : TextSoFar) (text : List ℕ) : Type 0 where
  pub program : Begun
  pub so : SoFar t text (sections_of t.names program)
  pub within : WithinSoFar program
  pub sound : SoundNames t.names (length program.predicates) (length program.functions)

pub within_declared : (ps fs : List ℕ) → length ps ≤ max_declared → length fs ≤ max_declared
    → Each (λ arity. arity ≤ max_arity) ps → Each (λ arity. arity ≤ max_arity) fs → WithinSoFar (declared_only ps fs)
within_declared ps fs most functions_most small functions-small =
    record {
      predicates_most = most;
      functions_most = functions_most;
      clauses_most = omega arith;
      predicate_arities = small;
      function_arities = functions-small;
      clauses_within = none;
    }

pub nothing_so_far : ReadSoFar nothing []
nothing_so_far =
    record {
      program = declared_only [] [];
      so = record { lines = refl; words = refl; written = refl };
      within = within_declared [] [] (omega arith) (omega arith) none none;
      sound = no_names;
    }

module _ (names : List ℕ) (b : Begun) {t : TextSoFar} {text : List ℕ} (so : SoFar t text (sections_of names b)) where
  pub predicates_counted : count t pred_section ≡ length b.predicates
  predicates_counted = ap (λ (l : List ℕ). get_or l pred_section 0) so.lines

  pub functions_counted : count t func_section ≡ length b.functions
  functions_counted = ap (λ (l : List ℕ). get_or l func_section 0) so.lines

  -- where no line stands behind the predicates, or behind the functions, there are no others
  pub only_predicates : later t.lines pred_section ≡ 0 → b ≡ declared_only b.predicates []
  only_predicates e = by b.functions b.clauses (sym (ap (λ (l : List ℕ). later l pred_section) so.lines) ∙ e)
    where
      by : (fs : List ℕ) (cs : List Clause) → length fs + length cs ≡ 0 → record { predicates = b.predicates; functions = fs; clauses = cs } ≡ declared_only b.predicates []
      by [] [] q = refl
      by [] (c ∷ cs) q = absurd (omega arith)
      by (f ∷ fs) cs q = absurd (omega arith)

  pub only_declared : later t.lines func_section ≡ 0 → b ≡ declared_only b.predicates b.functions
  only_declared e = by b.clauses (sym (ap (λ (l : List ℕ). later l func_section) so.lines) ∙ e)
    where
      by : (cs : List Clause) → length cs ≡ 0 → record { predicates = b.predicates; functions = b.functions; clauses = cs } ≡ declared_only b.predicates b.functions
      by [] q = refl
      by (c ∷ cs) q = absurd (omega arith)

-- a line that may stand: none of a later section stands before it, and there are not yet 64 of its own
pub record Opened (t : TextSoFar) (section : ℕ) : Type 0 where
  pub none_later : later t.lines section ≡ 0
  pub few : count t section < max_declared

pub opens_right : {A : Type 0} (t : TextSoFar) (section at : ℕ) (o : Read A) (a : A) → opens t section at o ≡ right a → Opened t section × (o ≡ right a)
opens_right t section at o a e =
    let one = first_right (eqb (later t.lines section) 0) _ ill_formed at a e in
    let two = first_right (may_come t section) o out_of_range at a one.1 in
    let may = both_true (eqb section pred_section || ltb 0 (count t pred_section)) (ltb (count t section) max_declared) two.0 in
    (record { none_later = eqb-true _ _ one.0; few = ltb-true _ _ may.1 }, two.1)

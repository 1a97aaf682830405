-- A written text is never too long: for each word it has at most 17 bytes, a tab and a token, and for each declaration 22 more.
use Prim.Native.Nat.{ℕ, suc, ◌+◌, ◌*◌, ◌≤◌, ◌<◌}
use native.Mathlib.Omega.{arith}
use mathlib.Core.Path.{◌≡◌, refl, ap, ◌∙◌}
use mathlib.Core.List.{List, [], ◌∷◌, ◌++◌}
use lib.ListN.{length, length-append}
use Rattle.terms.specs.Term.{Term}
use Rattle.terms.specs.Cells.{enc, Atom}
use Rattle.program.specs.Limits.{max_arity, max_bytes}
use Rattle.program.specs.Program.{Clause, Program}
use Rattle.program.specs.Within.{Each, none, more, after, modes_of, encode_atoms, encode_clauses, encode, WithinClause, WithinLimits}
use Rattle.text_lines.specs.Keyword.{pred, func, clause, query}
use Rattle.written_lines.specs.Tokens.{atom_tokens, atoms_tokens, behind_tabs, line}
use Rattle.written_lines.specs.Lines.{section, declaration_fields, declarations, clause_lines}
use Rattle.writer.specs.Write.{text_of}
use Rattle.round_trips.proofs.Sections.{Items}
use Rattle.round_trips.proofs.ReadSoFar.{declaration_items, clause_items}
use Rattle.round_trips.proofs.Printed.{Printed, tabs_length, line_length}
use Rattle.round_trips.proofs.WrittenDeclarations.{arity_printed}
use Rattle.round_trips.proofs.ReadNames.{SoundNames}
use Rattle.round_trips.proofs.WrittenTokens.{symbol_printed, atom_printed, atom_tokens_law, atoms_printed, atoms_tokens_law}

-- a section: for each line 17 bytes a word, and so many more
section_bound : {A : Type 0} (k : Items A) (Within : A → Type 0) (over to : ℕ)
    → ((i : ℕ) (a : A) → i < to → Within a → length (line k.keyword (k.fields i a)) ≤ 17 * length (k.word a) + over)
    → (i : ℕ) (items : List A) → i + length items ≤ to → Each Within items
    → length (section k.keyword k.fields i items) ≤ 17 * length (k.words items) + over * length items
section_bound k Within over to bound i [] few none = omega arith
section_bound k Within over to bound i (a ∷ items) few (more h each) =
    let rest = section_bound k Within over to bound (suc i) items (omega arith) each in
    let first = bound i a (omega arith) h in
    let lines = length-append (line k.keyword (k.fields i a)) (section k.keyword k.fields (suc i) items) in
    let words = ap length (k.first a items) ∙ length-append (k.word a) (k.words items) in
    omega arith

module _ (names ps fs : List ℕ) (sound : SoundNames names (length ps) (length fs)) where
  -- a line of one token a cell
  line_bound : (keyword : List ℕ) (ss : List (List ℕ)) (n : ℕ) → Each Printed ss → length ss ≡ n → length (line keyword ss) ≤ length keyword + 17 * n + 1
  line_bound keyword ss n each e =
      let tokens : length (behind_tabs ss) ≤ 17 * length ss = tabs_length ss each in
      let whole : length (line keyword ss) ≡ length keyword + length (behind_tabs ss) + 1 = line_length keyword ss in
      omega arith

  -- a keyword of four bytes, a name and a number
  declaration_bound : (keyword : List ℕ) (i arity : ℕ) → length keyword ≡ 4 → i < length ps + length fs → arity ≤ max_arity
      → length (line keyword (declaration_fields names i arity)) ≤ 17 * 1 + 22
  declaration_bound keyword i arity four few h =
      let printed : Each Printed (declaration_fields names i arity) = more (symbol_printed names ps fs sound i few) (more (arity_printed arity h) none) in
      let bound = line_bound keyword (declaration_fields names i arity) 2 printed refl in
      omega arith

  declarations_bound : (keyword : List ℕ) (i : ℕ) (arities : List ℕ) → length keyword ≡ 4 → i + length arities ≤ length ps + length fs
      → Each (λ arity. arity ≤ max_arity) arities → length (declarations keyword names i arities) ≤ 17 * length arities + 22 * length arities
  declarations_bound keyword i arities four few each =
      section_bound (declaration_items keyword names) (λ arity. arity ≤ max_arity) 22 (length ps + length fs)
      (λ j arity l h. declaration_bound keyword j arity four l h) i arities few each

  clause_bound : (c : Clause) → WithinClause ps fs c → length (line clause (atoms_tokens names (length ps) (c.head ∷ c.body))) ≤ 17 * suc (length (encode_atoms (c.head ∷ c.body))) + 0
  clause_bound c w =
      let ts : List Term = c.head ∷ c.body in
      let bound : length (line clause (atoms_tokens names (length ps) ts)) ≤ 6 + 17 * length (encode_atoms ts) + 1
      = line_bound clause (atoms_tokens names (length ps) ts) (length (encode_atoms ts)) (atoms_printed names ps fs sound ts (more w.head_atom w.body_atoms)) (atoms_tokens_law names ps fs sound ts) in
      omega arith

  clauses_bound : (cs : List Clause) → Each (WithinClause ps fs) cs → length (clause_lines names (length ps) cs) ≤ 17 * length (encode_clauses cs) + 0 * length cs
  clauses_bound cs each =
      section_bound (clause_items names (length ps)) (WithinClause ps fs) 0 (length cs) (λ n c l w. clause_bound c w) 0 cs (omega arith) each

  query_bound : (t : Term) (modes : List ℕ) → Atom ps fs t
      → length (line query (atom_tokens names (length ps) modes (enc t))) ≤ 5 + 17 * length (enc t) + 1
  query_bound t modes a =
      line_bound query (atom_tokens names (length ps) modes (enc t)) (length (enc t)) (atom_printed names ps fs sound modes t a)
      (atom_tokens_law names ps fs sound modes (enc t))

-- how many words a program has
encode_length : (p : Program)
    → length (encode p)
    ≡ 3 + length p.predicates + length p.functions + length (encode_clauses p.clauses) + length (enc p.goal) + 1 + length (modes_of (after 0 p.goal) p.grounded)
unfolding encode
encode_length p =
    rw (
      length-append p.predicates (p.functions ++ (encode_clauses p.clauses ++ (enc p.goal ++ after 0 p.goal ∷ modes_of (after 0 p.goal) p.grounded))),
      length-append p.functions (encode_clauses p.clauses ++ (enc p.goal ++ after 0 p.goal ∷ modes_of (after 0 p.goal) p.grounded)),
      length-append (encode_clauses p.clauses) (enc p.goal ++ after 0 p.goal ∷ modes_of (after 0 p.goal) p.grounded),
      length-append (enc p.goal) (after 0 p.goal ∷ modes_of (after 0 p.goal) p.grounded),
    )
    (omega arith)

pub written_length : (p : Program) (names : List ℕ) → WithinLimits p → SoundNames names (length p.predicates) (length p.functions)
    → length (text_of p names) ≤ max_bytes
written_length p names w sound =
    let ps : List ℕ = p.predicates in
    let fs : List ℕ = p.functions in
    let modes : List ℕ = modes_of (after 0 p.goal) p.grounded in
    let d₁ : List ℕ = declarations pred names 0 ps in
    let d₂ : List ℕ = declarations func names (length ps) fs in
    let cs : List ℕ = clause_lines names (length ps) p.clauses in
    let q : List ℕ = line query (atom_tokens names (length ps) modes (enc p.goal)) in
    let sum : length (text_of p names) ≡ length d₁ + (length d₂ + (length cs + length q))
    = rw (length-append d₁ (d₂ ++ (cs ++ q)), length-append d₂ (cs ++ q), length-append cs q) in
    let words = encode_length p in
    omega (
      arith,
      w.words_most,
      w.predicates_most,
      w.functions_most,
      declarations_bound names ps fs sound pred 0 ps refl (omega arith) w.predicate_arities,
      declarations_bound names ps fs sound func (length ps) fs refl (omega arith) w.function_arities,
      clauses_bound names ps fs sound p.clauses w.clauses_within,
      query_bound names ps fs sound p.goal modes w.goal_atom,
    )

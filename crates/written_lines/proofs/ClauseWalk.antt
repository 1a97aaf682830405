-- Atoms one after another, and clauses one after another: what is left of them, and their texts.
use Prim.Native.Nat.{ℕ, suc, ◌+◌, ◌≤◌, ◌<◌}
use mathlib.Core.Path.{◌≡◌, refl, sym, ap, ◌∙◌}
use mathlib.Core.List.{List, [], ◌∷◌, ◌++◌, append_assoc, append-nil}
use native.Mathlib.Omega.{arith}
use lib.ListN.{length, get_or, take, drop, drop_of_length-le}
use Rattle.terms.specs.Term.{Term}
use Rattle.terms.specs.Cells.{enc}
use Rattle.program.specs.Program.{Nth, Clause}
use Rattle.program.specs.Within.{more, encode_atoms, encode_clauses}
use Rattle.program.proofs.Nths.{below_nth}
use Rattle.directory.specs.From.{AtomFrom, AtomsFrom, ClauseFrom, ClausesFrom}
use Rattle.directory.proofs.Cuts.{word_behind, nth_drop, nth_take, each_nth}
use Rattle.directory.proofs.ClauseWalk.{body_length}
use Rattle.text_lines.specs.Keyword.{clause}
use Rattle.written_lines.specs.Tokens.{atom_tokens, atoms_tokens, behind_tabs, line}
use Rattle.written_lines.specs.Lines.{clause_fields, clause_lines}
use Rattle.written_lines.proofs.LineTexts.{section_one, tabs_append}

-- the words of the parts from number i on come next
pub record ToCome {A : Type 0} (encoded : List A → List ℕ) (words : List ℕ) (parts : List A) (rest : List ℕ) (i at : ℕ) : Type 0 where
  pub cut : drop at words ≡ encoded (drop i parts) ++ rest
  pub within : at ≤ length words

module _ {A : Type 0} (encoded : List A → List ℕ) (words : List ℕ) (parts : List A) (rest : List ℕ) (i at : ℕ) (l : ToCome encoded words parts rest i at)
    (none : encoded [] ≡ []) (all : length parts ≤ i) where
  -- none is left
  pub none_to_come : drop at words ≡ rest
  none_to_come = l.cut ∙ ap (λ (ps : List A). encoded ps ++ rest) (drop_of_length-le parts all) ∙ ap (λ (ws : List ℕ). ws ++ rest) none

atoms_append : (names : List ℕ) (n : ℕ) (l m : List Term) → atoms_tokens names n (l ++ m) ≡ atoms_tokens names n l ++ atoms_tokens names n m
atoms_append names n [] m = refl
atoms_append names n (t ∷ l) m =
    ap (λ (k : List (List ℕ)). atom_tokens names n [] (enc t) ++ k) (atoms_append names n l m)
    ∙ sym (append_assoc (atom_tokens names n [] (enc t)) (atoms_tokens names n l) (atoms_tokens names n m))

module _ (words : List ℕ) (start : ℕ) (predicates functions : List ℕ) (count : ℕ) (a : AtomsFrom words start predicates functions count) (i at : ℕ)
    (l : ToCome encode_atoms words a.atoms a.rest i at) (h : i < count) where
  abbrev atom_at : (t : Term) × Nth a.atoms i t
  atom_at = below_nth a.atoms i (let e = a.many in omega arith)

  -- the atom that comes next
  abbrev pub next_atom : AtomFrom words at predicates functions
  next_atom =
      record {
        atom = atom_at.0;
        rest = encode_atoms (drop (suc i) a.atoms) ++ a.rest;
        cut =
            l.cut ∙ ap (λ (ts : List Term). encode_atoms ts ++ a.rest) (nth_drop atom_at.1)
            ∙ append_assoc (enc atom_at.0) (encode_atoms (drop (suc i) a.atoms)) a.rest;
        sound = each_nth a.sound atom_at.1;
      }

  pub next_atom_text : (names : List ℕ) (n : ℕ)
      → behind_tabs (atoms_tokens names n (take i a.atoms)) ++ behind_tabs (atom_tokens names n [] (enc atom_at.0)) ≡ behind_tabs (atoms_tokens names n (take (suc i) a.atoms))
  next_atom_text names n =
      sym (ap (λ (ts : List Term). behind_tabs (atoms_tokens names n ts)) (nth_take atom_at.1)
      ∙ ap behind_tabs (atoms_append names n (take i a.atoms) (atom_at.0 ∷ []) ∙ ap (λ (k : List (List ℕ)). atoms_tokens names n (take i a.atoms) ++ k) (append-nil (atom_tokens names n [] (enc atom_at.0))))
      ∙ tabs_append (atoms_tokens names n (take i a.atoms)) (atom_tokens names n [] (enc atom_at.0)))

-- the atoms of a clause: its head, and then its body
abbrev pub clause_atoms : (words : List ℕ) (at : ℕ) (predicates functions : List ℕ) (a : ClauseFrom words at predicates functions) (m : ℕ) → m ≡ get_or words at 0
    → AtomsFrom words (at + 1) predicates functions (m + 1)
clause_atoms words at predicates functions a m e =
    let c = a.clause in
    record {
      atoms = c.head ∷ c.body;
      rest = a.rest;
      cut =
          word_behind words at (length c.body) (enc c.head ++ (encode_atoms c.body ++ a.rest)) a.cut
          ∙ sym (append_assoc (enc c.head) (encode_atoms c.body) a.rest);
      sound = more a.within.head_atom a.within.body_atoms;
      many = let q = e ∙ body_length words at predicates functions a in omega arith;
    }

module _ (words : List ℕ) (start : ℕ) (predicates functions : List ℕ) (count : ℕ) (a : ClausesFrom words start predicates functions count) (i at : ℕ)
    (l : ToCome encode_clauses words a.clauses a.rest i at) (h : i < count) where
  abbrev clause_at : (c : Clause) × Nth a.clauses i c
  clause_at = below_nth a.clauses i (let e = a.many in omega arith)

  -- the clause that comes next
  abbrev pub next_clause : ClauseFrom words at predicates functions
  next_clause =
      let c = clause_at.0 in
      let others = encode_clauses (drop (suc i) a.clauses) in
      record {
        clause = c;
        rest = others ++ a.rest;
        cut =
            l.cut ∙ ap (λ (cs : List Clause). encode_clauses cs ++ a.rest) (nth_drop clause_at.1)
            ∙ ap (λ (ws : List ℕ). length c.body ∷ ws)
            (append_assoc (enc c.head) (encode_atoms c.body ++ others) a.rest
            ∙ ap (λ (ws : List ℕ). enc c.head ++ ws) (append_assoc (encode_atoms c.body) others a.rest));
        within = each_nth a.within clause_at.1;
      }

  pub next_clause_text : (names : List ℕ) (n : ℕ)
      → clause_lines names n (take i a.clauses) ++ line clause (atoms_tokens names n (clause_at.0.head ∷ clause_at.0.body)) ≡ clause_lines names n (take (suc i) a.clauses)
  next_clause_text names n =
      sym (ap (clause_lines names n) (nth_take clause_at.1) ∙ section_one clause (clause_fields names n) 0 (take i a.clauses) clause_at.0)

-- The atoms that are read from words are the atoms whose cells the words are, both ways.
use Prim.Native.Nat.{ℕ, zero, suc, ◌≤◌, ◌<◌}
use native.Mathlib.Omega.{arith}
use mathlib.Core.Path.{◌≡◌, refl, sym, ap, ◌∙◌}
use mathlib.Core.Bool.{Bool, true, false}
use mathlib.Core.List.{List, [], ◌∷◌, ◌++◌, append_assoc}
use lib.ListN.{length, get_or}
use lib.Dec.{ltb}
use borrow.Author.Tests.{lt-ltb, ltb-true}
use Rattle.terms.specs.Term.{Term, Terms, app, count}
use Rattle.terms.specs.Cells.{enc, Keepss, atom_cells, Atom, pick}
use Rattle.program.specs.Reply.{undeclared}
use Rattle.program.specs.Reading.{Decoded, wrong, right, next}
use Rattle.program.specs.Atoms.{terms, atom, atoms}
use Rattle.program.specs.Within.{Each, none, more, after, Numbered, NumberedAll, encode_atoms}
use Rattle.program.proofs.Words.{next_right}
use Rattle.program.proofs.TermWords.{TermsRead, terms_read}
use Rattle.program.proofs.WordsOfTerms.{read_arguments}

pub record AtomRead (predicates functions : List ℕ) (seen : ℕ) (ws : List ℕ) (t : Term) (seen' : ℕ) (rest : List ℕ) : Type 0 where
  pub is : ws ≡ enc t ++ rest
  pub sound : Atom predicates functions t
  pub numbered : Numbered seen t
  pub meets : seen' ≡ after seen t

arguments_atom : (ps fs : List ℕ) (seen w : ℕ) (ws : List ℕ) (us : Terms) (s : ℕ) (l : List ℕ) (t : Term) (seen' : ℕ) (rest : List ℕ)
    → w < length ps → TermsRead fs ws (get_or ps w 0) 1 seen us s l
    → ◌≡◌ {A = Decoded (Term × ℕ)} (right (app w us, s) l) (right (t, seen') rest) → AtomRead ps fs seen (w ∷ ws) t seen' rest
arguments_atom ps fs seen w ws us s l t seen' rest h r q =
    let same : ◌≡◌ {A = Term × ℕ} (app w us, s) (t, seen') = cc in
    let left : l ≡ rest = cc in
    let built : app w us ≡ t = ap (λ (x : Term × ℕ). x.0) same in
    let met : s ≡ seen' = ap (λ (x : Term × ℕ). x.1) same in
    rw (← built, ← met, ← left)
    (record {
      is = ap (λ (x : List ℕ). w ∷ x) r.are;
      sound =
          record { predicate = w; arguments = us; is = refl; declared = h; arity = r.number; keeps = r.keeps; short = omega (arith, r.short) };
      numbered = r.numbered;
      meets = r.meets;
    })

-- what is read as an atom is one, and the words are its cells
pub atom_read : (ps fs : List ℕ) (seen : ℕ) (ws : List ℕ) (t : Term) (seen' : ℕ) (rest : List ℕ)
    → atom ps fs seen ws ≡ right (t, seen') rest → AtomRead ps fs seen ws t seen' rest
unfolding atom
atom_read ps fs seen [] t seen' rest e = let z : ◌≡◌ {A = ℕ} 0 1 = cc in absurd (omega arith)
atom_read ps fs seen (w ∷ ws) t seen' rest e = by (ltb w (length ps)) refl e
  where
    by : (b : Bool) → ltb w (length ps) ≡ b
        → pick b (next {B = Term × ℕ} (terms fs ws (get_or ps w 0) 1 seen) (λ r l. right (app w r.0, r.1) l)) (wrong undeclared (w ∷ ws)) ≡ right (t, seen') rest
        → AtomRead ps fs seen (w ∷ ws) t seen' rest
    by true b e =
        let one = next_right (terms fs ws (get_or ps w 0) 1 seen) (λ r l. right (app w r.0, r.1) l) (t, seen') rest e in
        arguments_atom ps fs seen w ws one.0.0 one.0.1 one.1 t seen' rest (ltb-true _ _ b)
        (terms_read fs ws (get_or ps w 0) 1 seen one.0.0 one.0.1 one.1 (omega arith) one.2) one.3
    by false b e = let z : ◌≡◌ {A = ℕ} 0 1 = cc in absurd (omega arith)

read_arguments_of : (ps fs : List ℕ) (seen w : ℕ) (us : Terms) (rest : List ℕ) → w < length ps → count us ≡ get_or ps w 0 → Keepss fs us
    → length (enc (app w us)) ≤ atom_cells → Numbered seen (app w us)
    → atom ps fs seen (enc (app w us) ++ rest) ≡ right (app w us, after seen (app w us)) rest
unfolding atom
read_arguments_of ps fs seen w us rest h n k s m =
    rw (lt-ltb _ _ h, ← n, read_arguments us fs rest seen k m (omega (arith, s)))

-- the cells of an atom are read as it
pub read_atom : (ps fs : List ℕ) (seen : ℕ) (t : Term) (rest : List ℕ) → Atom ps fs t → Numbered seen t
    → atom ps fs seen (enc t ++ rest) ≡ right (t, after seen t) rest
read_atom ps fs seen t rest a m =
    rw a.is (read_arguments_of ps fs seen a.predicate a.arguments rest a.declared a.arity a.keeps (rw a.is at a.short) (rw a.is at m))

pub record AtomsRead (predicates functions : List ℕ) (n seen : ℕ) (ws : List ℕ) (ts : List Term) (rest : List ℕ) : Type 0 where
  pub are : ws ≡ encode_atoms ts ++ rest
  pub number : length ts ≡ n
  pub sound : Each (Atom predicates functions) ts
  pub numbered : NumberedAll seen ts

no_atoms_read : (ps fs : List ℕ) (seen : ℕ) (ws : List ℕ) (ts : List Term) (seen' : ℕ) (rest : List ℕ)
    → ◌≡◌ {A = Decoded (List Term × ℕ)} (right ([], seen) ws) (right (ts, seen') rest) → AtomsRead ps fs zero seen ws ts rest
no_atoms_read ps fs seen ws ts seen' rest q =
    let same : ◌≡◌ {A = List Term × ℕ} ([], seen) (ts, seen') = cc in
    let left : ws ≡ rest = cc in
    let nothing : [] ≡ ts = ap (λ (x : List Term × ℕ). x.0) same in
    rw (← nothing) (record { are = left; number = refl; sound = none; numbered = tt })

more_atoms_read : (ps fs : List ℕ) (n seen : ℕ) (ws mid last : List ℕ) (a : Term × ℕ) (r : List Term × ℕ) (ts : List Term) (seen' : ℕ) (rest : List ℕ)
    → AtomRead ps fs seen ws a.0 a.1 mid → AtomsRead ps fs n a.1 mid r.0 last
    → ◌≡◌ {A = Decoded (List Term × ℕ)} (right (a.0 ∷ r.0, r.1) last) (right (ts, seen') rest) → AtomsRead ps fs (suc n) seen ws ts rest
more_atoms_read ps fs n seen ws mid last a r ts seen' rest first others q =
    let same : ◌≡◌ {A = List Term × ℕ} (a.0 ∷ r.0, r.1) (ts, seen') = cc in
    let left : last ≡ rest = cc in
    let all : a.0 ∷ r.0 ≡ ts = ap (λ (x : List Term × ℕ). x.0) same in
    rw (← all, ← left)
    (record {
      are =
          first.is ∙ ap (λ (l : List ℕ). enc a.0 ++ l) others.are ∙ sym (append_assoc (enc a.0) (encode_atoms r.0) last);
      number = ap suc others.number;
      sound = more first.sound others.sound;
      numbered = (first.numbered, rw first.meets at others.numbered);
    })

pub atoms_read : (ps fs : List ℕ) (n seen : ℕ) (ws : List ℕ) (ts : List Term) (seen' : ℕ) (rest : List ℕ)
    → atoms ps fs n seen ws ≡ right (ts, seen') rest → AtomsRead ps fs n seen ws ts rest
unfolding atoms
atoms_read ps fs zero seen ws ts seen' rest e = no_atoms_read ps fs seen ws ts seen' rest e
atoms_read ps fs (suc n) seen ws ts seen' rest e =
    let f : Term × ℕ → List ℕ → Decoded (List Term × ℕ) = λ a mid. next (atoms ps fs n a.1 mid) (λ r last. right (a.0 ∷ r.0, r.1) last) in
    let one = next_right (atom ps fs seen ws) f (ts, seen') rest e in
    let g : List Term × ℕ → List ℕ → Decoded (List Term × ℕ) = λ r last. right (one.0.0 ∷ r.0, r.1) last in
    let two = next_right (atoms ps fs n one.0.1 one.1) g (ts, seen') rest one.3 in
    more_atoms_read ps fs n seen ws one.1 two.1 one.0 two.0 ts seen' rest
    (atom_read ps fs seen ws one.0.0 one.0.1 one.1 one.2)
    (atoms_read ps fs n one.0.1 one.1 two.0.0 two.0.1 two.1 two.2) two.3

-- how many variables are met after atoms
abbrev pub after_all : ℕ → List Term → ℕ
after_all seen [] = seen
after_all seen (t ∷ ts) = after_all (after seen t) ts

pub read_atoms : (ps fs : List ℕ) (seen : ℕ) (ts : List Term) (rest : List ℕ) → Each (Atom ps fs) ts → NumberedAll seen ts
    → atoms ps fs (length ts) seen (encode_atoms ts ++ rest) ≡ right (ts, after_all seen ts) rest
unfolding atoms
read_atoms ps fs seen [] rest none m = refl
read_atoms ps fs seen (t ∷ ts) rest (more a each) m =
    rw (append_assoc (enc t) (encode_atoms ts) rest, read_atom ps fs seen t (encode_atoms ts ++ rest) a m.0, read_atoms ps fs (after seen t) ts rest each m.1)

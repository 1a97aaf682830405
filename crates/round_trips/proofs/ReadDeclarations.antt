-- Declaration lines: what was read so far stays what is written, with the declaration.
use Prim.Native.Nat.{ℕ, suc, ◌+◌, ◌*◌, ◌≤◌, ◌<◌}
use native.Mathlib.Omega.{arith}
use mathlib.Core.Path.{◌≡◌, refl, sym, ap, ap₂, subst, ◌∙◌}
use mathlib.Core.Bool.{Bool, true, false, cond}
use mathlib.Core.List.{List, [], ◌∷◌, ◌++◌}
use lib.ListN.{length, length-append}
use lib.Dec.{ltb}
use borrow.Author.Tests.{ltb-false}
use Rattle.std.specs.Prelude.{Option, Some, None}
use Rattle.program.specs.Limits.{max_declared, max_arity}
use Rattle.program.specs.Reply.{out_of_range, bad_name}
use Rattle.program.specs.Within.{none, more}
use Rattle.text.specs.Token.{is_name, number_of}
use Rattle.text.specs.Name.{name_bytes, padded}
use Rattle.text.specs.Decimal.{decimal}
use Rattle.text_lines.specs.Keyword.{pred, func}
use Rattle.cells.specs.TextSoFar.{Read, wrong, right, pred_section, func_section, TextSoFar, count, with_line}
use Rattle.declarations.specs.Declarations.{declaring, fresh, arity_of, symbol_of, two, opens, declared, declaration_line, pred_line, func_line}
use Rattle.declarations.proofs.Symbols.{entry_front}
use Rattle.written_lines.specs.Tokens.{symbol_token, line}
use Rattle.written_lines.specs.Lines.{declarations}
use Rattle.round_trips.proofs.Tokens.{both_true, number_decimal}
use Rattle.round_trips.proofs.Printed.{each_append}
use Rattle.round_trips.proofs.ReadNames.{SoundNames, predicate_sound, function_sound, last_token}
use Rattle.round_trips.proofs.Sections.{Section, SoFar, grown, empties, line_added, section_of, section_grown}
use Rattle.round_trips.proofs.ReadSoFar.{Begun, declared_only, others_behind, declaration_items, predicates_of, functions_of, sections_of, WithinSoFar, ReadSoFar, within_declared, predicates_counted, functions_counted, only_predicates, only_declared, Opened, opens_right}

-- names behind those that are written change nothing
declarations_front : (keyword names key : List ℕ) (i : ℕ) (arities : List ℕ) → (i + length arities) * name_bytes ≤ length names
    → declarations keyword (names ++ key) i arities ≡ declarations keyword names i arities
declarations_front keyword names key i [] h = refl
declarations_front keyword names key i (a ∷ arities) h =
    rw (entry_front names key i (omega arith)) (ap (λ (l : List ℕ). line keyword (symbol_token names i ∷ decimal a ∷ []) ++ l) (declarations_front keyword names key (suc i) arities (omega arith)))

section_front : (keyword names key : List ℕ) (i : ℕ) (arities : List ℕ) → (i + length arities) * name_bytes ≤ length names
    → section_of (declaration_items keyword names) i arities ≡ section_of (declaration_items keyword (names ++ key)) i arities
section_front keyword names key i arities h =
    λ j. record { lines = length arities; words = arities; text = sym (declarations_front keyword names key i arities h) j }

-- the declarations of a section, with one more behind them
section_declared : (keyword names name : List ℕ) (i : ℕ) (arities : List ℕ) (a : ℕ) → length names ≡ (i + length arities) * name_bytes → is_name name ≡ true
    → grown (section_of (declaration_items keyword names) i arities) (a ∷ []) (line keyword (name ∷ decimal a ∷ []))
    ≡ section_of (declaration_items keyword (names ++ padded name)) i (arities ++ a ∷ [])
section_declared keyword names name i arities a size is_name =
    ap₂ (λ (s : Section) (y : List ℕ). grown s (a ∷ []) (line keyword (y ∷ decimal a ∷ [])))
    (section_front keyword names (padded name) i arities (omega arith)) (sym (last_token names name (i + length arities) size is_name))
    ∙ section_grown (declaration_items keyword (names ++ padded name)) i arities a

two_right : {A : Type 0} (at : ℕ) (ss : List (List ℕ)) (f : List ℕ → List ℕ → Read A) (a : A) → two at ss f ≡ right a
    → (name : List ℕ) × (arity : List ℕ) × (ss ≡ name ∷ arity ∷ []) × (f name arity ≡ right a)
two_right at [] f a e = let z : ◌≡◌ {A = ℕ} 0 1 = cc in absurd (omega arith)
two_right at (name ∷ []) f a e = let z : ◌≡◌ {A = ℕ} 0 1 = cc in absurd (omega arith)
two_right at (name ∷ arity ∷ []) f a e = (name, arity, refl, e)
two_right at (name ∷ arity ∷ other ∷ ss) f a e = let z : ◌≡◌ {A = ℕ} 0 1 = cc in absurd (omega arith)

-- what is known of a declaration that was read
record Declaration (t t' : TextSoFar) (section from : ℕ) (ss : List (List ℕ)) : Type 0 where
  name : List ℕ
  arity : ℕ
  fields : ss ≡ name ∷ decimal arity ∷ []
  opened : Opened t section
  new : fresh t.names from (count t section) name ≡ true
  small : arity ≤ max_arity
  becomes : with_line t section (t.names ++ padded name) (arity ∷ []) ≡ t'

declared_right : (t t' : TextSoFar) (section from at : ℕ) (name arity : List ℕ) → Opened t section
    → declared t section name (symbol_of t.names from (count t section) at name arity) ≡ right t' → Declaration t t' section from (name ∷ arity ∷ [])
declared_right t t' section from at name arity opened e = by (fresh t.names from (count t section) name) refl (number_of arity) refl e
  where
    small : (v : ℕ) → fresh t.names from (count t section) name ≡ true → number_of arity ≡ Some v → (b : Bool) → ltb max_arity v ≡ b
        → declared t section name (cond b (wrong out_of_range (at + 1 + length name + 1)) (right v)) ≡ right t'
        → Declaration t t' section from (name ∷ arity ∷ [])
    small v new number true b q = let z : ◌≡◌ {A = ℕ} 0 1 = cc in absurd (omega arith)
    small v new number false b q =
        let few : v ≤ max_arity = ltb-false max_arity v b in
        record {
          name = name;
          arity = v;
          fields = ap (λ (l : List ℕ). name ∷ l ∷ []) (number_decimal arity v number (omega arith));
          opened = opened;
          new = new;
          small = few;
          becomes = cc;
        }

    by : (b : Bool) → fresh t.names from (count t section) name ≡ b → (k : Option ℕ) → number_of arity ≡ k
        → declared t section name (cond b (arity_of (at + 1 + length name + 1) k) (wrong bad_name (at + 1))) ≡ right t'
        → Declaration t t' section from (name ∷ arity ∷ [])
    by true new None number q = let z : ◌≡◌ {A = ℕ} 0 1 = cc in absurd (omega arith)
    by true new (Some v) number q = small v new number (ltb max_arity v) refl q
    by false new k number q = let z : ◌≡◌ {A = ℕ} 0 1 = cc in absurd (omega arith)

declaration_read : (t t' : TextSoFar) (section from at : ℕ) (ss : List (List ℕ)) → declaration_line t section from at ss ≡ right t' → Declaration t t' section from ss
declaration_read t t' section from at ss e =
    let fields = two_right at ss (λ name arity. opens t section at (declared t section name (symbol_of t.names from (count t section) (at + declaring) name arity))) t' e in
    let name = fields.0 in
    let arity = fields.1 in
    let opening = opens_right t section at (declared t section name (symbol_of t.names from (count t section) (at + declaring) name arity)) t' fields.3 in
    rw fields.2 (declared_right t t' section from (at + declaring) name arity opening.0 opening.1)

size_more : (arities : List ℕ) (a : ℕ) → length (arities ++ a ∷ []) ≡ length arities + 1
size_more arities a = length-append arities (a ∷ [])

-- a predicate more, while there is nothing else
module _ (t : TextSoFar) (text ps name : List ℕ) (a : ℕ) (so : SoFar t text (sections_of t.names (declared_only ps []))) (within : WithinSoFar (declared_only ps []))
    (sound : SoundNames t.names (length ps) 0) (room : count t pred_section < max_declared)
    (new : fresh t.names 0 (count t pred_section) name ≡ true) (small : a ≤ max_arity) where
  predicate_declared : ReadSoFar (with_line t pred_section (t.names ++ padded name) (a ∷ [])) (text ++ line pred (name ∷ decimal a ∷ []))
  predicate_declared =
      let counted = predicates_counted t.names (declared_only ps []) so in
      let size : length t.names ≡ (0 + length ps) * name_bytes = omega (arith, sound.sized) in
      record {
        program = declared_only (ps ++ a ∷ []) [];
        so =
            subst (λ (s : Section). SoFar (with_line t pred_section (t.names ++ padded name) (a ∷ [])) (text ++ line pred (name ∷ decimal a ∷ [])) (s ∷ empties (suc others_behind)))
            (section_declared pred t.names name 0 ps a size (both_true (is_name name) _ new).0)
            (line_added t text [] (predicates_of t.names ps) (suc others_behind) (t.names ++ padded name) (a ∷ []) (line pred (name ∷ decimal a ∷ [])) so);
        within =
            within_declared (ps ++ a ∷ []) [] (omega (arith, size_more ps a)) (omega arith)
            (each_append ps (a ∷ []) within.predicate_arities (more small none)) none;
        sound = rw (size_more ps a) (predicate_sound t.names name (length ps) sound (rw counted at new));
      }

-- a function more, while there is nothing behind the functions
module _ (t : TextSoFar) (text ps fs name : List ℕ) (a : ℕ) (so : SoFar t text (sections_of t.names (declared_only ps fs))) (within : WithinSoFar (declared_only ps fs))
    (sound : SoundNames t.names (length ps) (length fs)) (room : count t func_section < max_declared)
    (new : fresh t.names (count t pred_section) (count t func_section) name ≡ true) (small : a ≤ max_arity) where
  function_declared : ReadSoFar (with_line t func_section (t.names ++ padded name) (a ∷ [])) (text ++ line func (name ∷ decimal a ∷ []))
  function_declared =
      let counted = functions_counted t.names (declared_only ps fs) so in
      record {
        program = declared_only ps (fs ++ a ∷ []);
        so =
            subst (λ (ss : Section × Section). SoFar (with_line t func_section (t.names ++ padded name) (a ∷ [])) (text ++ line func (name ∷ decimal a ∷ [])) (ss.0 ∷ ss.1 ∷ empties others_behind))
            (ap₂ (λ (s s' : Section). (s, s')) (section_front pred t.names (padded name) 0 ps (omega (arith, sound.sized)))
            (section_declared func t.names name (length ps) fs a sound.sized (both_true (is_name name) _ new).0))
            (line_added t text (predicates_of t.names ps ∷ []) (functions_of t.names (length ps) fs) others_behind (t.names ++ padded name) (a ∷ []) (line func (name ∷ decimal a ∷ [])) so);
        within =
            within_declared ps (fs ++ a ∷ []) within.predicates_most (omega (arith, size_more fs a)) within.predicate_arities
            (each_append fs (a ∷ []) within.function_arities (more small none));
        sound = rw (size_more fs a) (function_sound t.names name (length ps) (length fs) sound (rw (predicates_counted t.names (declared_only ps fs) so, counted) at new));
      }

-- (declarations) a `pred` line
pub pred_read : (t t' : TextSoFar) (text : List ℕ) (at : ℕ) (ss : List (List ℕ)) → ReadSoFar t text → pred_line t at ss ≡ right t' → ReadSoFar t' (text ++ line pred ss)
pred_read t t' text at ss read e = by (declaration_read t t' pred_section 0 at ss e)
  where
    by : Declaration t t' pred_section 0 ss → ReadSoFar t' (text ++ line pred ss)
    by d =
        let b = read.program in
        let only = only_predicates t.names b read.so d.opened.none_later in
        rw (d.fields, ← d.becomes)
        (predicate_declared t text b.predicates d.name d.arity
        (subst (λ (x : Begun). SoFar t text (sections_of t.names x)) only read.so) (subst WithinSoFar only read.within)
        (subst (λ (x : Begun). SoundNames t.names (length x.predicates) (length x.functions)) only read.sound)
        d.opened.few d.new d.small)

-- a `func` line
pub func_read : (t t' : TextSoFar) (text : List ℕ) (at : ℕ) (ss : List (List ℕ)) → ReadSoFar t text → func_line t at ss ≡ right t' → ReadSoFar t' (text ++ line func ss)
func_read t t' text at ss read e = by (declaration_read t t' func_section (count t pred_section) at ss e)
  where
    by : Declaration t t' func_section (count t pred_section) ss → ReadSoFar t' (text ++ line func ss)
    by d =
        let b = read.program in
        let only = only_declared t.names b read.so d.opened.none_later in
        rw (d.fields, ← d.becomes)
        (function_declared t text b.predicates b.functions d.name d.arity
        (subst (λ (x : Begun). SoFar t text (sections_of t.names x)) only read.so) (subst WithinSoFar only read.within) read.sound
        d.opened.few d.new d.small)

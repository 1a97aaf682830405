-- The texts of lines, as they are written piece by piece.
use Prim.Native.Nat.{ℕ, suc, ◌+◌, ◌<◌}
use mathlib.Core.Path.{◌≡◌, refl, sym, ap, ◌∙◌}
use mathlib.Core.List.{List, [], ◌∷◌, ◌++◌, map, append_assoc, append-nil}
use native.Mathlib.Omega.{arith}
use native.Mathlib.Nat.{add-zero}
use lib.ListN.{length, get_or, take}
use lib.Seq.{take-suc, length-take-le}
use Rattle.text.specs.Line.{tab, line_feed}
use Rattle.text.specs.Decimal.{decimal}
use Rattle.written_lines.specs.Tokens.{symbol_token, behind_tabs, line}
use Rattle.written_lines.specs.Lines.{section, declaration_fields, declarations}

-- a declaration: the keyword, a tab and the name, a tab, the arity, LF
pub declaration_text : (keyword s d : List ℕ) → (((keyword ++ (tab ∷ s)) ++ (tab ∷ [])) ++ d) ++ (line_feed ∷ []) ≡ line keyword (s ∷ d ∷ [])
declaration_text keyword s d =
    simp append_assoc (ap (λ (l : List ℕ). keyword ++ (tab ∷ s ++ (tab ∷ l))) (ap (λ (l : List ℕ). l ++ line_feed ∷ []) (sym (append-nil d))) ∙ simp append_assoc)

-- one line more behind a section
pub section_one : {A : Type 0} (keyword : List ℕ) (fields : ℕ → A → List (List ℕ)) (i : ℕ) (items : List A) (a : A)
    → section keyword fields i (items ++ a ∷ []) ≡ section keyword fields i items ++ line keyword (fields (i + length items) a)
section_one keyword fields i [] a = rw add-zero (append-nil (line keyword (fields i a)))
section_one keyword fields i (b ∷ items) a =
    let e : i + suc (length items) ≡ suc i + length items = omega arith in
    rw e (ap (λ (l : List ℕ). line keyword (fields i b) ++ l) (section_one keyword fields (suc i) items a)
    ∙ sym (append_assoc (line keyword (fields i b)) (section keyword fields (suc i) items) (line keyword (fields (suc i + length items) a))))

-- one declaration more
pub declarations_more : (keyword names : List ℕ) (n : ℕ) (arities : List ℕ) (i : ℕ) → i < length arities
    → declarations keyword names n (take i arities) ++ line keyword (symbol_token names (n + i) ∷ decimal (get_or arities i 0) ∷ [])
    ≡ declarations keyword names n (take (suc i) arities)
declarations_more keyword names n arities i h =
    let l : length (take i arities) ≡ i = length-take-le i arities (omega arith) in
    sym (ap (declarations keyword names n) (take-suc arities i 0 h) ∙ section_one keyword (declaration_fields names) n (take i arities) (get_or arities i 0)
    ∙ ap (λ (k : ℕ). declarations keyword names n (take i arities) ++ line keyword (symbol_token names (n + k) ∷ decimal (get_or arities i 0) ∷ [])) l)

map_append : {A : Type 0} (f : ℕ → A) (l m : List ℕ) → map f (l ++ m) ≡ map f l ++ map f m
map_append f [] m = refl
map_append f (x ∷ l) m = ap (λ (k : List _). f x ∷ k) (map_append f l m)

-- the fields of two lists, each behind a tab
pub tabs_append : (ss ts : List (List ℕ)) → behind_tabs (ss ++ ts) ≡ behind_tabs ss ++ behind_tabs ts
tabs_append [] ts = refl
tabs_append (s ∷ ss) ts =
    ap (λ (l : List ℕ). tab ∷ l) (ap (λ (l : List ℕ). s ++ l) (tabs_append ss ts) ∙ sym (append_assoc s (behind_tabs ss) (behind_tabs ts)))

-- one token more
pub tabs_more : (token : ℕ → List ℕ) (cells : List ℕ) (i : ℕ) → i < length cells
    → behind_tabs (map token (take i cells)) ++ (tab ∷ token (get_or cells i 0)) ≡ behind_tabs (map token (take (suc i) cells))
tabs_more token cells i h =
    sym (ap (λ (l : List ℕ). behind_tabs (map token l)) (take-suc cells i 0 h)
    ∙ ap behind_tabs (map_append token (take i cells) (get_or cells i 0 ∷ []))
    ∙ tabs_append (map token (take i cells)) (token (get_or cells i 0) ∷ [])
    ∙ ap (λ (l : List ℕ). behind_tabs (map token (take i cells)) ++ (tab ∷ l)) (append-nil (token (get_or cells i 0))))

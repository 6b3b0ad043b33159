-- Lines in memory, one after another.
use Rattle.std.proofs.Common.{◌≡◌, ℕ, suc, ◌+◌, ◌-◌, ◌<◌, ◌≤◌, ◌&&◌, Bool, true, false, cond, List, [], ◌∷◌, ◌++◌, length, map, drop, get_or, nat_le, refl, sym, ap, ◌∙◌, arith, drop-cons, inl, inr}
use Rattle.std.specs.Prelude.{Option, Some, None}
use Rattle.std.specs.List.{list_all, sum_by}
use Rattle.std.proofs.lemmas.Bool.{and_from, and_left, and_right, cond-true, cond-false, cases_Bool, le-leb, leb-true, lt-leb, leb-false}
use Rattle.std.proofs.lemmas.List.{drop_all}
use Rattle.std.proofs.lemmas.List.Folds.{list_all-append}
use Rattle.std.proofs.lemmas.List.Sums.{sum_by-cons}
use Rattle.capture_prices.specs.Prices.{PriceList, are_prices}
use Rattle.sketch_text.specs.Heads.{are_files, is_head}
use Rattle.sketch_text.specs.Trees.{Line}
use Rattle.sketch_body.specs.Bodies.{Body, Item, head_of, items_of, of_line, of_prices, units_of_line}
use Rattle.sketch_body.specs.Due.{Due, is_over, next}
use Rattle.sketch_body.specs.Seen.{line_of}
use Rattle.sketch_body.specs.Texts.{is_item}
use Rattle.sketch_body.specs.Whole.{first_due, is_body, left_of, on_next, runs_out}
use Rattle.sketch_body.specs.Taken.{is_line, takes_each}
use Rattle.sketch_body.specs.declared.lines.SketchLine.{SketchLine}
use Rattle.sketch_body.proofs.Runs.{at, items}

-- the lines from a place on
abbrev pub from : List SketchLine → ℕ → List Line
from ls i = map line_of (drop i ls)

first_from : (ls : List SketchLine) (i : ℕ) (x : SketchLine) → i < length ls → x ≡ get_or ls i x → from ls i ≡ line_of x ∷ from ls (i + 1)
first_from ls i x inside here =
    let after : suc i ≡ i + 1 = omega arith in
    ap (map line_of) (drop-cons ls i x inside) ∙ ap (λ (y : SketchLine). line_of y ∷ from ls (suc i)) (sym here) ∙ ap (λ (j : ℕ). line_of x ∷ from ls j) after

-- the line has no text
pub unknown_line : (ls : List SketchLine) (i : ℕ) (x : SketchLine) (d : Due) (all : Bool) → i < length ls → x ≡ get_or ls i x → is_line d.prices (line_of x) ≡ false → takes_each d.prices d (from ls i) ≡ all → false ≡ all
unknown_line ls i x d all inside here other so =
    sym (and_left (is_line d.prices (line_of x)) _ other) ∙ ap (takes_each d.prices d) (sym (first_from ls i x inside here)) ∙ so

and_none : (b : Bool) (o : Option Due) (go : Due → Bool) → o ≡ None → (b && on_next o go) ≡ false
and_none true o go e = ap (λ (p : Option Due). on_next p go) e
and_none false o go e = refl

-- the line isn't due
pub undue_line : (ls : List SketchLine) (i : ℕ) (x : SketchLine) (d : Due) (all : Bool) → i < length ls → x ≡ get_or ls i x → next d (of_line (line_of x)) ≡ None → takes_each d.prices d (from ls i) ≡ all → false ≡ all
undue_line ls i x d all inside here none so =
    sym (and_none (is_line d.prices (line_of x)) (next d (of_line (line_of x))) (λ e. takes_each d.prices e (from ls (i + 1))) none) ∙ ap (takes_each d.prices d) (sym (first_from ls i x inside here)) ∙ so

and_some : (b : Bool) (o : Option Due) (e : Due) (go : Due → Bool) → b ≡ true → o ≡ Some e → (b && on_next o go) ≡ go e
and_some true o e go known is = ap (λ (p : Option Due). on_next p go) is
and_some false o e go known is = absurd cc

-- the line goes on
pub due_line : (ls : List SketchLine) (i : ℕ) (x : SketchLine) (d e : Due) (all : Bool) → i < length ls → x ≡ get_or ls i x → is_line d.prices (line_of x) ≡ true → next d (of_line (line_of x)) ≡ Some e → e.prices ≡ d.prices → takes_each d.prices d (from ls i) ≡ all → takes_each e.prices e (from ls (i + 1)) ≡ all
due_line ls i x d e all inside here known on same so =
    ap (λ (P : ℕ). takes_each P e (from ls (i + 1))) same
    ∙ sym (and_some (is_line d.prices (line_of x)) (next d (of_line (line_of x))) e (λ f. takes_each d.prices f (from ls (i + 1))) known on)
    ∙ ap (takes_each d.prices d) (sym (first_from ls i x inside here)) ∙ so

none_from : (ls : List SketchLine) (i : ℕ) → length ls ≤ i → from ls i ≡ []
none_from ls i past = ap (map line_of) (drop_all i ls past)

pub all_taken : (ls : List SketchLine) (i : ℕ) (d : Due) (all : Bool) → length ls ≤ i → takes_each d.prices d (from ls i) ≡ all → is_over d ≡ all
all_taken ls i d all past so = ap (takes_each d.prices d) (sym (none_from ls i past)) ∙ so

-- the whole

each_of : (b : Bool) (o : Option Due) (P : ℕ) (lines : List Line) → ((e : Due) → takes_each P e lines ≡ (list_all (is_item P) (items lines) && runs_out e (items lines))) → (b && on_next o (λ e. takes_each P e lines)) ≡ ((b && list_all (is_item P) (items lines)) && on_next o (λ e. runs_out e (items lines)))
each_of true (Some e) P lines same = same e
each_of true None P lines same = sym (and_right (list_all (is_item P) (items lines)) false refl)
each_of false o P lines same = refl

takes_both : (P : ℕ) (d : Due) (lines : List Line) → takes_each P d lines ≡ (list_all (is_item P) (items lines) && runs_out d (items lines))
takes_both P d [] = refl
takes_both P d (l ∷ lines) = each_of (is_line P l) (next d (of_line l)) P lines (λ e. takes_both P e lines)

prices_out : (ps : List PriceList) (P marks : ℕ) (nodes : List ℕ) (rest : List Item) → runs_out (record { prices = P; wanted = length ps; marks = marks; nodes = nodes }) (map (λ p. of_prices p) ps ++ rest) ≡ runs_out (at P marks nodes) rest
prices_out [] P marks nodes rest = refl
prices_out (p ∷ ps) P marks nodes rest = prices_out ps P marks nodes rest

prices_all : (P : ℕ) (ps : List PriceList) → list_all (is_item P) (map (λ p. of_prices p) ps) ≡ list_all are_prices ps
prices_all P [] = refl
prices_all P (p ∷ ps) = ap (λ (b : Bool). are_prices p && b) (prices_all P ps)

-- behind prices that are prices
pub behind : (ps : List PriceList) (lines : List Line) → list_all are_prices ps ≡ true → takes_each (length ps) (at (length ps) 0 (1 ∷ [])) lines ≡ (list_all (is_item (length ps)) (map (λ p. of_prices p) ps ++ items lines) && runs_out (first_due (length ps)) (map (λ p. of_prices p) ps ++ items lines))
behind ps lines priced =
    let P : ℕ = length ps in
    let known : list_all (is_item P) (map (λ p. of_prices p) ps ++ items lines) ≡ list_all (is_item P) (items lines) =
    list_all-append (is_item P) (map (λ p. of_prices p) ps) (items lines) ∙ ap (λ (b : Bool). b && list_all (is_item P) (items lines)) (prices_all P ps ∙ priced) in
    takes_both P (at P 0 (1 ∷ [])) lines
    ∙ ap (λ (b : Bool). b && runs_out (at P 0 (1 ∷ [])) (items lines)) (sym known)
    ∙ ap (λ (b : Bool). list_all (is_item P) (map (λ p. of_prices p) ps ++ items lines) && b) (sym (prices_out ps P 0 (1 ∷ []) (items lines)))

-- which sketches have texts

pub many_none : (b : Body) → 64 < length b.prices → false ≡ is_body b
many_none b more = sym (and_left _ _ (and_left (nat_le (length b.prices) 64) _ (lt-leb (length b.prices) 64 more)))

pub files_none : (b : Body) → are_files 0 b.files ≡ false → false ≡ is_body b
files_none b other = sym (and_left _ _ (and_right (nat_le (length b.prices) 64) (are_files 0 b.files) other))

pub priced_none : (b : Body) → list_all are_prices b.prices ≡ false → false ≡ is_body b
priced_none b other =
    let P : ℕ = length b.prices in
    let known : list_all (is_item P) (items_of b) ≡ false =
    list_all-append (is_item P) (map (λ p. of_prices p) b.prices) (items b.lines) ∙ and_left _ _ (prices_all P b.prices ∙ other) in
    sym (and_right (is_head (head_of b)) _ (and_left _ _ known))

pub whole_all : (b : Body) → length b.prices ≤ 64 → are_files 0 b.files ≡ true → list_all are_prices b.prices ≡ true → takes_each (length b.prices) (at (length b.prices) 0 (1 ∷ [])) b.lines ≡ is_body b
whole_all b few files priced =
    let P : ℕ = length b.prices in
    let head : is_head (head_of b) ≡ true = and_from _ _ (le-leb P 64 few) files in
    behind b.prices b.lines priced ∙ ap (λ (h : Bool). h && (list_all (is_item P) (items_of b) && runs_out (first_due P) (items_of b))) (sym head)

pub whole_taken : (b : Body) (n : ℕ) (d : Due) (lines : List SketchLine) (r : Bool) → length b.prices ≤ 64 → are_files 0 b.files ≡ true → list_all are_prices b.prices ≡ true → r ≡ takes_each d.prices d (map line_of lines) → d ≡ at n 0 (1 ∷ []) → n ≡ length b.prices → map line_of lines ≡ b.lines → r ≡ is_body b
whole_taken b n d lines r few files priced is due size same =
    is ∙ ap (λ (e : Due). takes_each e.prices e (map line_of lines)) due ∙ ap (λ (m : ℕ). takes_each m (at m 0 (1 ∷ [])) (map line_of lines)) size
    ∙ ap (takes_each (length b.prices) (at (length b.prices) 0 (1 ∷ []))) same ∙ whole_all b few files priced

-- units

left_none : (left n : ℕ) → left < n → left_of left n ≡ None
left_none left n more = cond-false (nat_le n left) _ None (lt-leb n left more)

left_some : (left n : ℕ) → n ≤ left → left_of left n ≡ Some (left - n)
left_some left n few = cond-true (nat_le n left) _ None (le-leb n left few)

pub left_less : (left n k : ℕ) → n ≤ left → left_of (left - n) k ≡ left_of left (n + k)
left_less left n k few = elim (cases_Bool (nat_le (n + k) left)) [
  | inl fits ↦
      let all = leb-true (n + k) left fits in
      let same : left - n - k ≡ left - (n + k) = omega arith in
      left_some (left - n) k (omega arith) ∙ ap (λ (m : ℕ). Some m) same ∙ sym (left_some left (n + k) all)
  | inr more ↦
      let past = leb-false (n + k) left more in
      left_none (left - n) k (omega arith) ∙ sym (left_none left (n + k) past)
]

units_from : (ls : List SketchLine) (i : ℕ) (x : SketchLine) → i < length ls → x ≡ get_or ls i x → sum_by units_of_line (from ls i) ≡ units_of_line (line_of x) + sum_by units_of_line (from ls (i + 1))
units_from ls i x inside here = ap (sum_by units_of_line) (first_from ls i x inside here) ∙ sum_by-cons units_of_line (line_of x) (from ls (i + 1))

pub units_next : (ls : List SketchLine) (i : ℕ) (x : SketchLine) (left units : ℕ) (all : Option ℕ) → i < length ls → x ≡ get_or ls i x → units ≡ units_of_line (line_of x) → units ≤ left → left_of left (sum_by units_of_line (from ls i)) ≡ all → left_of (left - units) (sum_by units_of_line (from ls (i + 1))) ≡ all
units_next ls i x left units all inside here is few so =
    let s : ℕ = sum_by units_of_line (from ls (i + 1)) in
    left_less left units s few ∙ ap (λ (u : ℕ). left_of left (u + s)) is ∙ ap (left_of left) (sym (units_from ls i x inside here)) ∙ so

pub units_over : (ls : List SketchLine) (i : ℕ) (x : SketchLine) (left units : ℕ) (all : Option ℕ) → i < length ls → x ≡ get_or ls i x → units ≡ units_of_line (line_of x) → left < units → left_of left (sum_by units_of_line (from ls i)) ≡ all → None ≡ all
units_over ls i x left units all inside here is more so =
    sym (left_none left (sum_by units_of_line (from ls i)) (omega (arith, units_from ls i x inside here))) ∙ so

pub units_end : (ls : List SketchLine) (i left : ℕ) (all : Option ℕ) → length ls ≤ i → left_of left (sum_by units_of_line (from ls i)) ≡ all → Some left ≡ all
units_end ls i left all past so =
    let same : left ≡ left - 0 = omega arith in
    ap (λ (m : ℕ). Some m) same ∙ sym (left_some left 0 (omega arith)) ∙ ap (λ (l : List Line). left_of left (sum_by units_of_line l)) (sym (none_from ls i past)) ∙ so

pub no_units : (left n : ℕ) (k : ℕ) → left < n → None ≡ left_of left (n + k)
no_units left n k more = sym (left_none left (n + k) (omega arith))

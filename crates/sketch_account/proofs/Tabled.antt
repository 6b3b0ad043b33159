-- Tables of rows of figures.
use Rattle.std.proofs.Common.{◌≡◌, ℕ, zero, suc, ◌-◌, ◌<◌, ◌==◌, Bool, true, false, cond, not, List, [], ◌∷◌, ◌++◌, length, map, get_or, refl, ap, sym, ◌∙◌, arith}
use Rattle.std.proofs.lemmas.Bool.{cond-true, cond-false, eq-eqb, ne_eqb}
use Rattle.std.proofs.lemmas.List.{length-map}
use Rattle.std.specs.Prelude.{Some, replicate}
use Rattle.std.specs.List.{filter}
use Rattle.board_base.specs.Board.{Places}
use Rattle.capture_prices.specs.Prices.{PriceList}
use Rattle.balance_rule.specs.Balance.{men_on}
use Rattle.sketch_grounds.specs.Zones.{Room}
use Rattle.board_base.specs.declared.men.Colour.{Colour}
use Rattle.figures.specs.Figures.{Figure, Sketch}
use Rattle.sketch_grounds.specs.Account.{Counted, counted_by, figure_row, figure_table, is_figure_of, lost_row, mark_limit}
use Rattle.sketch_grounds.specs.Limits.{Limit, allows, any, other, plain}
use Rattle.sketch_account.specs.Counting.{limit_by}
use Rattle.sketch_account.specs.Rows.{IsManner, counted}
use Rattle.sketch_account.specs.declared.rows.Manner.{Manner}

plain-by : (b : Bool) → true ≡ allows (cond b plain any) true
plain-by true = refl
plain-by false = refl

other-by : (b : Bool) → not b ≡ allows (cond b plain any) false
other-by true = refl
other-by false = refl

pub manner-mark : (f : Figure) (l : Limit) (m : Manner) → l ≡ mark_limit f → m.plain ≡ true → m.other ≡ not f.marked → IsManner l m
manner-mark f l m is plain_is other_is = record {
  plain = plain_is ∙ plain-by f.marked ∙ ap (λ (x : Limit). allows x true) (sym is);
  other = other_is ∙ other-by f.marked ∙ ap (λ (x : Limit). allows x false) (sym is);
}

pub manner-against : (f : Figure) (i j : ℕ) (m : Manner) → j ≡ i → m.plain ≡ false → m.other ≡ true → IsManner (limit_by (Some i) j f) m
manner-against f i j m same plain_is other_is =
    let e : limit_by (Some i) j f ≡ other = cond-true (j == i) other (mark_limit f) (eq-eqb j i same) in
    record {
      plain = plain_is ∙ ap (λ (x : Limit). allows x true) (sym e);
      other = other_is ∙ ap (λ (x : Limit). allows x false) (sym e);
    }

pub manner-else : (f : Figure) (i j : ℕ) → (j ≡ i → ⊥) → limit_by (Some i) j f ≡ mark_limit f
manner-else f i j apart = cond-false (j == i) other (mark_limit f) (ne_eqb j i apart)

-- the figures by their numbers
pub length-counted : (limit : ℕ → Figure → Limit) (S : Sketch) → length (counted_by limit S) ≡ length S
length-counted limit [] = refl
length-counted limit (f ∷ S) = ap suc (length-counted (λ i. limit (suc i)) S)

pub counted-at : (limit : ℕ → Figure → Limit) (S : Sketch) (i : ℕ) (f : Figure) (d : Counted) → i < length S → f ≡ get_or S i f → get_or (counted_by limit S) i d ≡ counted f (limit i f)
counted-at limit [] i f d low e = absurd (omega arith)
counted-at limit (g ∷ S) zero f d low e = ap (λ (x : Figure). counted x (limit 0 x)) (sym e)
counted-at limit (g ∷ S) (suc i) f d low e = counted-at (λ i. limit (suc i)) S i f d (omega arith) e

-- the table of a side
pub table-is : (p : PriceList) (wall : List Bool) (R : Room) (c : Colour) (first : Places) (xs : List Counted) (rows new : List (List ℕ)) (lost : List ℕ) (begun : ℕ) → begun ≡ men_on c first → rows ≡ map (figure_row p wall R c first) (filter (is_figure_of c) xs) → lost ≡ lost_row p wall R c first → new ≡ rows ++ replicate (begun - length rows) lost → new ≡ figure_table p wall R c first xs
unfolding figure_table
table-is p wall R c first xs rows new lost begun all is lost_is made =
    let size : length rows ≡ length (filter (is_figure_of c) xs) = ap (λ (l : List (List ℕ)). length l) is ∙ length-map (filter (is_figure_of c) xs) (figure_row p wall R c first) in
    let missing : begun - length rows ≡ men_on c first - length (filter (is_figure_of c) xs) = omega arith in
    made ∙ ap (λ (l : List (List ℕ)). l ++ replicate (begun - length rows) lost) is ∙ ap (λ (n : ℕ). map (figure_row p wall R c first) (filter (is_figure_of c) xs) ++ replicate n lost) missing
    ∙ ap (λ (r : List ℕ). map (figure_row p wall R c first) (filter (is_figure_of c) xs) ++ replicate (men_on c first - length (filter (is_figure_of c) xs)) r) lost_is

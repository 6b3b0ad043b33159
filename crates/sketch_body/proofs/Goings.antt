-- What the program goes on by.
use Rattle.std.proofs.Common.{◌≡◌, ℕ, zero, suc, ◌+◌, ◌-◌, ◌<◌, ◌≤◌, true, false, List, [], ◌∷◌, length, nat_le, refl, sym, ap, ◌∙◌, arith}
use Rattle.std.specs.Prelude.{Option, Some, None}
use Rattle.std.specs.Option.{option_and_then}
use Rattle.std.proofs.lemmas.Bool.{cond-true, cond-false, le-leb, lt-leb}
use Rattle.sketch_text.specs.declared.nodes.SketchNode.{SketchNode}
use Rattle.sketch_body.specs.Bodies.{Item, most_units}
use Rattle.sketch_body.specs.Due.{Due, Reading, after_node, announced, charge, charged, fits_depth, gone_on, next, settled}

-- taking a node

pub none_due : (P : ℕ) (old : List ℕ) (x : SketchNode) → old ≡ [] → after_node P old x ≡ None
none_due P old x e = ap (λ (nodes : List ℕ). after_node P nodes x) e

zero_due : (P count : ℕ) (nodes : List ℕ) (x : SketchNode) → count ≤ 0 → after_node P (count ∷ nodes) x ≡ None
zero_due P zero nodes x none = refl
zero_due P (suc n) nodes x none = absurd (omega arith)

misfit : (P count : ℕ) (nodes : List ℕ) (x : SketchNode) → fits_depth P (length nodes) x ≡ false → after_node P (count ∷ nodes) x ≡ None
misfit P zero nodes x other = refl
misfit P (suc n) nodes x other = cond-false (fits_depth P (length nodes) x) _ None other

taken : (P count : ℕ) (nodes : List ℕ) (x : SketchNode) → 0 < count → fits_depth P (length nodes) x ≡ true → after_node P (count ∷ nodes) x ≡ Some (record { prices = P; wanted = 0; marks = x.marks; nodes = settled (announced x.end ∷ (count - 1) ∷ nodes) })
taken P zero nodes x some fits = absurd (omega arith)
taken P (suc n) nodes x some fits =
    let less : n ≡ suc n - 1 = omega arith in
    cond-true (fits_depth P (length nodes) x) (Some (record { prices = P; wanted = 0; marks = x.marks; nodes = settled (announced x.end ∷ n ∷ nodes) })) None fits
    ∙ ap (λ (k : ℕ). let d : Due = record { prices = P; wanted = 0; marks = x.marks; nodes = settled (announced x.end ∷ k ∷ nodes) } in Some d) less

pub not_taken_zero : (P count : ℕ) (old nodes : List ℕ) (x : SketchNode) → old ≡ count ∷ nodes → count ≤ 0 → after_node P old x ≡ None
not_taken_zero P count old nodes x e none = ap (λ (l : List ℕ). after_node P l x) e ∙ zero_due P count nodes x none

pub not_taken : (P count : ℕ) (old nodes : List ℕ) (x : SketchNode) → old ≡ count ∷ nodes → fits_depth P (length nodes) x ≡ false → after_node P old x ≡ None
not_taken P count old nodes x e other = ap (λ (l : List ℕ). after_node P l x) e ∙ misfit P count nodes x other

pub node_taken : (P count : ℕ) (old nodes less last : List ℕ) (x : SketchNode) → old ≡ count ∷ nodes → 0 < count → fits_depth P (length nodes) x ≡ true → less ≡ (count - 1) ∷ nodes → last ≡ settled (announced x.end ∷ less) → after_node P old x ≡ Some (record { prices = P; wanted = 0; marks = x.marks; nodes = last })
node_taken P count old nodes less last x e some fits off is =
    let end : settled (announced x.end ∷ (count - 1) ∷ nodes) ≡ last = ap (λ (l : List ℕ). settled (announced x.end ∷ l)) (sym off) ∙ sym is in
    ap (λ (l : List ℕ). after_node P l x) e ∙ taken P count nodes x some fits
    ∙ ap (λ (l : List ℕ). let d : Due = record { prices = P; wanted = 0; marks = x.marks; nodes = l } in Some d) end

-- going on

too_dear : (o : Option Due) (n : ℕ) → most_units < n → option_and_then (charged n) o ≡ None
too_dear None n dear = refl
too_dear (Some d) n dear = cond-false (nat_le n most_units) _ None (lt-leb n most_units dear)

pub gone_dear : (r : Reading) (i : Item) (n : ℕ) → n ≡ r.units + charge i → most_units < n → gone_on r i ≡ None
gone_dear r i n is dear = ap (λ (k : ℕ). option_and_then (charged k) (next r.due i)) (sym is) ∙ too_dear (next r.due i) n dear

pub gone_wrong : (r : Reading) (i : Item) → next r.due i ≡ None → gone_on r i ≡ None
gone_wrong r i e = ap (option_and_then (charged (r.units + charge i))) e

pub gone_right : (r s : Reading) (i : Item) → next r.due i ≡ Some s.due → s.units ≡ r.units + charge i → s.units ≤ most_units → gone_on r i ≡ Some s
gone_right r s i on is few =
    ap (option_and_then (charged (r.units + charge i))) on ∙ ap (λ (n : ℕ). charged n s.due) (sym is)
    ∙ cond-true (nat_le s.units most_units) (Some s) None (le-leb s.units most_units few)

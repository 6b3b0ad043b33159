-- Lines of a ledger that compare equal are equal.
use Rattle.std.proofs.Common.{◌≡◌, ◌⊎◌, ℕ, Bool, true, false, ◌&&◌, List, inl, inr, refl, ap, arith}
use Rattle.std.specs.Prelude.{nat_eq}
use Rattle.std.specs.Bool.{beq}
use Rattle.std.specs.Cmp.{unsigned_Decides}
use Rattle.std.specs.Cmp.Lexicographic.{pointwise}
use Rattle.std.proofs.lemmas.Bool.{and_from, and_parts, cases_Bool}
use Rattle.std.proofs.lemmas.Slice.Eq.{slice_eq-Decides}
use Rattle.board_base.specs.SameSets.{sets_decide}
use Rattle.board_base.specs.contracts.squares.SquarePartialEq.TheImpl as squares
use Rattle.board_base.specs.declared.men.Colour.{Colour}
use Rattle.ledger_lines.specs.declared.lines.Line.{Line}
use Rattle.ledger_lines.specs.declared.lines.Line.TheVariants.{Unmoved, Lacks, Captures, Pawn, Man, Ahead, Original, Promoted, Among, Fell, Became}
use Rattle.ledger_lines.specs.declared.lines.Manner.{Manner}
use Rattle.ledger_lines.specs.declared.lines.Taker.{Taker}
use Rattle.ledger_lines.specs.declared.lines.Takings.{Takings}
use Rattle.ledger_lines.specs.declared.losses.Losses.{Losses}
use Rattle.ledger_lines.specs.contracts.lines.LinePartialEq.TheImpl as lines
use Rattle.ledger_lines.specs.contracts.lines.MannerPartialEq.TheImpl as manners
use Rattle.ledger_lines.specs.contracts.lines.TakerPartialEq.TheImpl as takers

-- sets and numbers that compare equal
sets_itself : (a : List Bool) → pointwise beq a a ≡ true
sets_itself a = (sets_decide a a).1 refl

numbers_cases : (a b : List ℕ) → (pointwise nat_eq a b ≡ false) ⊎ (a ≡ b)
numbers_cases a b = elim (cases_Bool (pointwise nat_eq a b)) [
  | inl same ↦ inr ((slice_eq-Decides unsigned_Decides a b (pointwise nat_eq a b) refl).0 same)
  | inr other ↦ inl other
]

square_itself : (s : ℕ) → squares.eq-value.it s s ≡ true
square_itself s = grind arith

numbers_itself : (a : List ℕ) → pointwise nat_eq a a ≡ true
numbers_itself a = (slice_eq-Decides unsigned_Decides a a (pointwise nat_eq a a) refl).1 refl

of_unmoved : (s : List Bool) (b : Line) → lines.eq-value.it (Unmoved s) b ≡ true → Unmoved s ≡ b
of_unmoved s (Unmoved s2) e = ap Unmoved ((sets_decide s s2).0 e)
of_unmoved s (Lacks c2 l2) e = grind arith
of_unmoved s (Captures c2 t2) e = grind arith
of_unmoved s (Pawn s2 u2 n2 x2) e = grind arith
of_unmoved s (Man s2 t2) e = grind arith
of_unmoved s (Ahead s2) e = grind arith
of_unmoved s (Original s2) e = grind arith
of_unmoved s (Promoted s2 u2) e = grind arith
of_unmoved s (Among n2 u2) e = grind arith
of_unmoved s (Fell s2 t2 m2 p2) e = grind arith
of_unmoved s (Became s2) e = grind arith

of_lacks : (c : Colour) (l : Losses) (b : Line) → lines.eq-value.it (Lacks c l) b ≡ true → Lacks c l ≡ b
of_lacks c l b e = grind arith

of_captures : (c : Colour) (t : Takings) (b : Line) → lines.eq-value.it (Captures c t) b ≡ true → Captures c t ≡ b
of_captures c t b e = grind (arith, numbers_cases)

of_pawn : (s : ℕ) (u : List Bool) (n : ℕ) (x : Bool) (b : Line) → lines.eq-value.it (Pawn s u n x) b ≡ true → Pawn s u n x ≡ b
of_pawn s u n x (Pawn s2 u2 n2 x2) e =
    let whole : (squares.eq-value.it s s2 && (pointwise beq u u2 && (nat_eq n n2 && beq x x2))) ≡ true = e in
    let same : u ≡ u2 = (sets_decide u u2).0 (and_parts _ _ (and_parts _ _ whole).1).0 in
    grind arith
of_pawn s u n x (Unmoved s2) e = grind arith
of_pawn s u n x (Lacks c2 l2) e = grind arith
of_pawn s u n x (Captures c2 t2) e = grind arith
of_pawn s u n x (Man s2 t2) e = grind arith
of_pawn s u n x (Ahead s2) e = grind arith
of_pawn s u n x (Original s2) e = grind arith
of_pawn s u n x (Promoted s2 u2) e = grind arith
of_pawn s u n x (Among n2 u2) e = grind arith
of_pawn s u n x (Fell s2 t2 m2 p2) e = grind arith
of_pawn s u n x (Became s2) e = grind arith

of_man : (s t : ℕ) (b : Line) → lines.eq-value.it (Man s t) b ≡ true → Man s t ≡ b
of_man s t b e = grind arith

of_ahead : (s : List Bool) (b : Line) → lines.eq-value.it (Ahead s) b ≡ true → Ahead s ≡ b
of_ahead s (Ahead s2) e = ap Ahead ((sets_decide s s2).0 e)
of_ahead s (Unmoved s2) e = grind arith
of_ahead s (Lacks c2 l2) e = grind arith
of_ahead s (Captures c2 t2) e = grind arith
of_ahead s (Pawn s2 u2 n2 x2) e = grind arith
of_ahead s (Man s2 t2) e = grind arith
of_ahead s (Original s2) e = grind arith
of_ahead s (Promoted s2 u2) e = grind arith
of_ahead s (Among n2 u2) e = grind arith
of_ahead s (Fell s2 t2 m2 p2) e = grind arith
of_ahead s (Became s2) e = grind arith

of_original : (s : List Bool) (b : Line) → lines.eq-value.it (Original s) b ≡ true → Original s ≡ b
of_original s (Original s2) e = ap Original ((sets_decide s s2).0 e)
of_original s (Unmoved s2) e = grind arith
of_original s (Lacks c2 l2) e = grind arith
of_original s (Captures c2 t2) e = grind arith
of_original s (Pawn s2 u2 n2 x2) e = grind arith
of_original s (Man s2 t2) e = grind arith
of_original s (Ahead s2) e = grind arith
of_original s (Promoted s2 u2) e = grind arith
of_original s (Among n2 u2) e = grind arith
of_original s (Fell s2 t2 m2 p2) e = grind arith
of_original s (Became s2) e = grind arith

of_promoted : (s : ℕ) (u : List Bool) (b : Line) → lines.eq-value.it (Promoted s u) b ≡ true → Promoted s u ≡ b
of_promoted s u (Promoted s2 u2) e =
    let whole : (squares.eq-value.it s s2 && pointwise beq u u2) ≡ true = e in
    let same : u ≡ u2 = (sets_decide u u2).0 (and_parts _ _ whole).1 in
    grind arith
of_promoted s u (Unmoved s2) e = grind arith
of_promoted s u (Lacks c2 l2) e = grind arith
of_promoted s u (Captures c2 t2) e = grind arith
of_promoted s u (Pawn s2 u2 n2 x2) e = grind arith
of_promoted s u (Man s2 t2) e = grind arith
of_promoted s u (Ahead s2) e = grind arith
of_promoted s u (Original s2) e = grind arith
of_promoted s u (Among n2 u2) e = grind arith
of_promoted s u (Fell s2 t2 m2 p2) e = grind arith
of_promoted s u (Became s2) e = grind arith

of_among : (n : ℕ) (u : List Bool) (b : Line) → lines.eq-value.it (Among n u) b ≡ true → Among n u ≡ b
of_among n u (Among n2 u2) e =
    let whole : (nat_eq n n2 && pointwise beq u u2) ≡ true = e in
    let same : u ≡ u2 = (sets_decide u u2).0 (and_parts _ _ whole).1 in
    grind arith
of_among n u (Unmoved s2) e = grind arith
of_among n u (Lacks c2 l2) e = grind arith
of_among n u (Captures c2 t2) e = grind arith
of_among n u (Pawn s2 u2 n2 x2) e = grind arith
of_among n u (Man s2 t2) e = grind arith
of_among n u (Ahead s2) e = grind arith
of_among n u (Original s2) e = grind arith
of_among n u (Promoted s2 u2) e = grind arith
of_among n u (Fell s2 t2 m2 p2) e = grind arith
of_among n u (Became s2) e = grind arith

-- what holds of the last of four parts that compare equal
of_last : (a b c d : Bool) → (a && (b && (c && d))) ≡ true → d ≡ true
of_last a b c d whole = (and_parts c d (and_parts b (c && d) (and_parts a (b && (c && d)) whole).1).1).1

of_fell : (s : ℕ) (t : Taker) (m : Manner) (u : List Bool) (b : Line) → lines.eq-value.it (Fell s t m u) b ≡ true → Fell s t m u ≡ b
of_fell s t m u (Fell s2 t2 m2 u2) e =
    let same : u ≡ u2 = (sets_decide u u2).0 (of_last (squares.eq-value.it s s2) (takers.eq-value.it t t2) (manners.eq-value.it m m2) (pointwise beq u u2) e) in
    grind arith
of_fell s t m u (Unmoved s2) e = grind arith
of_fell s t m u (Lacks c2 l2) e = grind arith
of_fell s t m u (Captures c2 t2) e = grind arith
of_fell s t m u (Pawn s2 u2 n2 x2) e = grind arith
of_fell s t m u (Man s2 t2) e = grind arith
of_fell s t m u (Ahead s2) e = grind arith
of_fell s t m u (Original s2) e = grind arith
of_fell s t m u (Promoted s2 u2) e = grind arith
of_fell s t m u (Among n2 u2) e = grind arith
of_fell s t m u (Became s2) e = grind arith

of_became : (s : ℕ) (b : Line) → lines.eq-value.it (Became s) b ≡ true → Became s ≡ b
of_became s b e = grind arith

taker_itself : (t : Taker) → takers.eq-value.it t t ≡ true
taker_itself t = grind arith

manner_itself : (m : Manner) → manners.eq-value.it m m ≡ true
manner_itself m = grind arith

fell_itself : (s : ℕ) (t : Taker) (m : Manner) (u : List Bool) → lines.eq-value.it (Fell s t m u) (Fell s t m u) ≡ true
fell_itself s t m u =
    let whole : (squares.eq-value.it s s && (takers.eq-value.it t t && (manners.eq-value.it m m && pointwise beq u u))) ≡ true = and_from _ _ (square_itself s) (and_from _ _ (taker_itself t) (and_from _ _ (manner_itself m) (sets_itself u))) in
    whole

pub exact : (a b : Line) → lines.eq-value.it a b ≡ true → a ≡ b
exact (Unmoved s) b e = of_unmoved s b e
exact (Lacks c l) b e = of_lacks c l b e
exact (Captures c t) b e = of_captures c t b e
exact (Pawn s u n x) b e = of_pawn s u n x b e
exact (Man s t) b e = of_man s t b e
exact (Ahead s) b e = of_ahead s b e
exact (Original s) b e = of_original s b e
exact (Promoted s u) b e = of_promoted s u b e
exact (Among n u) b e = of_among n u b e
exact (Fell s t m u) b e = of_fell s t m u b e
exact (Became s) b e = of_became s b e

pub itself : (a : Line) → lines.eq-value.it a a ≡ true
itself (Unmoved s) = sets_itself s
itself (Lacks c l) = grind arith
itself (Captures c t) = grind (arith, numbers_itself)
itself (Pawn s u n x) =
    let numbers : (nat_eq n n && beq x x) ≡ true = grind arith in
    let whole : (squares.eq-value.it s s && (pointwise beq u u && (nat_eq n n && beq x x))) ≡ true = and_from _ _ (square_itself s) (and_from _ _ (sets_itself u) numbers) in
    whole
itself (Man s t) = grind arith
itself (Ahead s) = sets_itself s
itself (Original s) = sets_itself s
itself (Promoted s u) =
    let whole : (squares.eq-value.it s s && pointwise beq u u) ≡ true = and_from _ _ (square_itself s) (sets_itself u) in
    whole
itself (Among n u) =
    let number : nat_eq n n ≡ true = grind arith in
    let whole : (nat_eq n n && pointwise beq u u) ≡ true = and_from _ _ number (sets_itself u) in
    whole
itself (Fell s t m u) = fell_itself s t m u
itself (Became s) = grind arith

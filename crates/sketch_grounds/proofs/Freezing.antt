-- What is left of a set when figures who may have come are taken out is the greatest frozen set.
use Rattle.std.proofs.Common.{◌≡◌, ℕ, zero, suc, ◌<◌, ◌≤◌, ◌==◌, inl, inr, Bool, true, false, ◌&&◌, ◌||◌, not, List, [], ◌∷◌, ◌++◌, length, set, refl, ap, sym, ◌∙◌, subst, arith}
use Rattle.std.proofs.lemmas.Bool.{and_parts, and_from, or_cases, or_left, or_right, cases_Bool, cases_eq, cases_lt, eqb-true, eq-eqb, ne_eqb, not-true, not_from_false, both_ways}
use Rattle.std.proofs.lemmas.List.{get_or-set_same, get_or-set_other}
use Rattle.std.proofs.lemmas.List.Elements.{Contains-append_cases, Contains-append_left, Contains-append_right}
use Rattle.std.specs.Prelude.{Some}
use Rattle.std.specs.List.{Contains, list_all, list_any, range_with_len}
use Rattle.general_lemmas.proofs.Lists.{contains-cases, contains-first, contains-later, contains-none}
use Rattle.general_lemmas.proofs.Rounds.{count, fewer}
use Rattle.general_lemmas.proofs.Truth.{same_truth}
use Rattle.board_base.specs.Board.{is_in, same_kind}
use Rattle.board_base.specs.Rights.{Rights}
use Rattle.board_base.specs.Squares.{squares_of}
use Rattle.board_base.specs.declared.men.Kind.{Kind}
use Rattle.board_base.specs.declared.men.Kind.TheVariants.{Pawn, Knight, Bishop, Rook, Queen, King}
use Rattle.board_base.proofs.KindsOfMen.{same_kind-self}
use Rattle.play_rules.specs.Reach.{IsWithin}
use Rattle.cage_rules.specs.Frozen.{is_held_home}
use Rattle.cage_rules.specs.Sets.{squares_that, union}
use Rattle.cage_rules.specs.SetSteps.{both, outside}
use Rattle.cage_rules.proofs.Filling.{all-in, in-that, is_in-that, length-that}
use Rattle.cage_rules.proofs.SetAlgebra.{is_in-both, is_in-outside, same-that, that-is}
use Rattle.cage_rules.proofs.Tested.{all_board, at_board, member-inside}
use Rattle.figures.specs.Figures.{Figure, Sketch, figure_at, is_fixed_on, may_be}
use Rattle.past_account.specs.Frozen.{IsBarred, IsFrozenIn, enters_as, figure_enters}
use Rattle.sketch_grounds.specs.Pins.{ArePins, HasPin, IsPin, PinOf, covers, kept, stays}
use Rattle.sketch_grounds.specs.declared.frozen.Pin.{Pin}
use Rattle.sketch_grounds.proofs.Entering.{none-that}
use Rattle.cage_rules.proofs.Loose.{joined}
use Rattle.past_account.proofs.Accesses.{some-kind}

pub kind-there : (P : Kind → Bool) (kinds : List Kind) → list_any P kinds ≡ true → (k : Kind) × (list_any (λ j. same_kind j k) kinds ≡ true) × (P k ≡ true)
kind-there P [] h = absurd (both_ways false refl h)
kind-there P (j ∷ kinds) h = elim (or_cases (P j) (list_any P kinds) h) [
  | inl here ↦ (j, or_left (same_kind j j) (list_any (λ i. same_kind i j) kinds) (same_kind-self j), here)
  | inr later ↦ let x = kind-there P kinds later in (x.0, or_right (same_kind j x.0) (list_any (λ i. same_kind i x.0) kinds) x.1, x.2)
]

-- of six tests some passes
abbrev pub one_of_six : (Kind → Bool) → Bool
one_of_six p = p Pawn || ((p Knight || p Bishop) || (p Rook || (p Queen || p King)))

six-tells : (p : Kind → Bool) (k : Kind) → p k ≡ true → one_of_six p ≡ true
six-tells p Pawn h = or_left (p Pawn) _ h
six-tells p Knight h = or_right (p Pawn) _ (or_left (p Knight || p Bishop) _ (or_left (p Knight) (p Bishop) h))
six-tells p Bishop h = or_right (p Pawn) _ (or_left (p Knight || p Bishop) _ (or_right (p Knight) (p Bishop) h))
six-tells p Rook h = or_right (p Pawn) _ (or_right (p Knight || p Bishop) _ (or_left (p Rook) _ h))
six-tells p Queen h = or_right (p Pawn) _ (or_right (p Knight || p Bishop) _ (or_right (p Rook) _ (or_left (p Queen) (p King) h)))
six-tells p King h = or_right (p Pawn) _ (or_right (p Knight || p Bishop) _ (or_right (p Rook) _ (or_right (p Queen) (p King) h)))

six-told : (p : Kind → Bool) → one_of_six p ≡ true → (k : Kind) × (p k ≡ true)
six-told p h = elim (or_cases (p Pawn) _ h) [
  | inl a ↦ (Pawn, a)
  | inr rest ↦ elim (or_cases (p Knight || p Bishop) (p Rook || (p Queen || p King)) rest) [
    | inl light ↦ elim (or_cases (p Knight) (p Bishop) light) [ inl b ↦ (Knight, b) | inr c ↦ (Bishop, c) ]
    | inr heavy ↦ elim (or_cases (p Rook) (p Queen || p King) heavy) [
      | inl d ↦ (Rook, d)
      | inr last ↦ elim (or_cases (p Queen) (p King) last) [ inl e ↦ (Queen, e) | inr g ↦ (King, g) ]
    ]
  ]
]

pub kinds-six : (kinds : List Kind) (P : Kind → Bool) → one_of_six (λ k. list_any (λ j. same_kind j k) kinds && P k) ≡ list_any P kinds
kinds-six kinds P = same_truth _ _
    (λ h. let x = six-told (λ k. list_any (λ j. same_kind j k) kinds && P k) h in let parts = and_parts (list_any (λ j. same_kind j x.0) kinds) (P x.0) x.1 in some-kind P kinds x.0 parts.0 parts.1)
    (λ h. let x = kind-there P kinds h in six-tells (λ k. list_any (λ j. same_kind j k) kinds && P k) x.0 (and_from _ _ x.1 x.2))

-- entries by kinds
pub entries-none : (f : Figure) (k : Kind) (s : ℕ) → may_be f k ≡ false → squares_of 0 ≡ squares_that (λ t. may_be f k && enters_as f.marked f.colour k s t)
entries-none f k s none = none-that (λ t. may_be f k && enters_as f.marked f.colour k s t) (λ t inside. ap (λ (b : Bool). b && enters_as f.marked f.colour k s t) none)

pub entries-some : (f : Figure) (k : Kind) (s : ℕ) → may_be f k ≡ true → squares_that (enters_as f.marked f.colour k s) ≡ squares_that (λ t. may_be f k && enters_as f.marked f.colour k s t)
entries-some f k s may = same-that (enters_as f.marked f.colour k s) (λ t. may_be f k && enters_as f.marked f.colour k s t) (λ t inside. ap (λ (b : Bool). b && enters_as f.marked f.colour k s t) (sym may))

pub entries-six : (f : Figure) (s : ℕ) (a b c d e g : List Bool) → let q : Kind → ℕ → Bool = λ k t. may_be f k && enters_as f.marked f.colour k s t in a ≡ squares_that (q Pawn) → b ≡ squares_that (q Knight) → c ≡ squares_that (q Bishop) → d ≡ squares_that (q Rook) → e ≡ squares_that (q Queen) → g ≡ squares_that (q King) → union a (union (union b c) (union d (union e g))) ≡ squares_that (figure_enters f s)
entries-six f s a b c d e g ea eb ec ed ee eg =
    let q : Kind → ℕ → Bool = λ k t. may_be f k && enters_as f.marked f.colour k s t in
    joined a (union (union b c) (union d (union e g))) (q Pawn) (λ t. (q Knight t || q Bishop t) || (q Rook t || (q Queen t || q King t))) ea
    (joined (union b c) (union d (union e g)) (λ t. q Knight t || q Bishop t) (λ t. q Rook t || (q Queen t || q King t)) (joined b c (q Knight) (q Bishop) eb ec)
    (joined d (union e g) (q Rook) (λ t. q Queen t || q King t) ed (joined e g (q Queen) (q King) ee eg)))
    ∙ same-that (λ t. one_of_six (λ k. q k t)) (figure_enters f s) (λ t inside. kinds-six f.kinds (λ k. enters_as f.marked f.colour k s t))

-- a set has all squares of another where none of these is outside
pub covers-made : (set_ squares from : List Bool) (n : ℕ) → from ≡ both squares (outside set_) → n ≤ 64 → ((s : ℕ) → s < n → is_in from s ≡ false) → (n < 64 → is_in from n ≡ true) → (n == 64) ≡ covers set_ squares
unfolding covers
covers-made set_ squares from n made low none found =
    let at_from : (t : ℕ) → t < 64 → is_in from t ≡ (is_in squares t && not (is_in set_ t)) = λ t inside. ap (λ (l : List Bool). is_in l t) made ∙ is_in-both squares (outside set_) t inside ∙ ap (λ (b : Bool). is_in squares t && b) (is_in-outside set_ t inside) in
    same_truth (n == 64) (list_all (λ t. not (is_in squares t) || is_in set_ t) (range_with_len 0 64))
    (λ all.
    let e : n ≡ 64 = eqb-true n 64 all in
    all_board (λ t. not (is_in squares t) || is_in set_ t) (λ t inside. elim (cases_Bool (is_in squares t)) [
      | inl member ↦ elim (cases_Bool (is_in set_ t)) [
        | inl there ↦ or_right (not (is_in squares t)) (is_in set_ t) there
        | inr out ↦ absurd (both_ways _ (none t (omega arith)) (at_from t inside ∙ and_from _ _ member (not_from_false _ out)))
      ]
      | inr out ↦ or_left (not (is_in squares t)) (is_in set_ t) (not_from_false _ out)
    ]))
    (λ all. elim (cases_lt n 64) [
      | inl inside ↦
          let parts = and_parts (is_in squares n) (not (is_in set_ n)) (sym (at_from n inside) ∙ found inside) in
          absurd (elim (or_cases (not (is_in squares n)) (is_in set_ n) (at_board (λ t. not (is_in squares t) || is_in set_ t) n all inside)) [
            | inl out ↦ both_ways _ (not-true _ out) parts.0
            | inr there ↦ both_ways _ (not-true _ parts.1) there
          ])
      | inr past ↦ eq-eqb n 64 (omega arith)
    ])

pub covers-told : (set_ squares : List Bool) (t : ℕ) → covers set_ squares ≡ true → t < 64 → is_in squares t ≡ true → is_in set_ t ≡ true
unfolding covers
covers-told set_ squares t all inside member = elim (or_cases (not (is_in squares t)) (is_in set_ t) (at_board (λ t. not (is_in squares t) || is_in set_ t) t all inside)) [
  | inl out ↦ absurd (both_ways _ (not-true _ out) member)
  | inr there ↦ there
]

pub covers-tells : (set_ squares : List Bool) → ((t : ℕ) → t < 64 → is_in squares t ≡ true → is_in set_ t ≡ true) → covers set_ squares ≡ true
unfolding covers
covers-tells set_ squares each = all_board (λ t. not (is_in squares t) || is_in set_ t) (λ t inside. elim (cases_Bool (is_in squares t)) [
  | inl member ↦ or_right (not (is_in squares t)) (is_in set_ t) (each t inside member)
  | inr out ↦ or_left (not (is_in squares t)) (is_in set_ t) (not_from_false _ out)
])

-- figures of a sketch, by their numbers
pub number-of : (S : Sketch) (f : Figure) → Contains S f → (i : ℕ) × (figure_at S i ≡ Some f)
number-of [] f h = absurd (contains-none f h)
number-of (g ∷ S) f h = elim (contains-cases g S f h) [
  | inl same ↦ (0, ap Some same)
  | inr later ↦ let x = number-of S f later in (suc x.0, x.1)
]

pub figure-in : (S : Sketch) (i : ℕ) (f : Figure) → figure_at S i ≡ Some f → Contains S f
figure-in [] i f e = cc
figure-in (g ∷ S) zero f e = let same : g ≡ f = cc in subst (Contains (g ∷ S)) same (contains-first g S)
figure-in (g ∷ S) (suc i) f e = contains-later g S f (figure-in S i f e)

-- a figure is fixed on one square
pub fixed-once : (f : Figure) (s t : ℕ) → length f.squares ≡ 64 → is_fixed_on s f ≡ true → is_fixed_on t f ≡ true → s ≡ t
fixed-once f s t size at_s at_t =
    let here = and_parts (is_in f.squares s) (list_all (λ u. not (is_in f.squares u) || (u == s)) (range_with_len 0 64)) at_s in
    let there = and_parts (is_in f.squares t) (list_all (λ u. not (is_in f.squares u) || (u == t)) (range_with_len 0 64)) at_t in
    let inside : s < 64 = member-inside f.squares s size here.0 in
    elim (or_cases (not (is_in f.squares s)) (s == t) (at_board (λ u. not (is_in f.squares u) || (u == t)) s there.1 inside)) [
      | inl out ↦ absurd (both_ways _ (not-true _ out) here.0)
      | inr same ↦ eqb-true s t same
    ]

-- the list of fixed figures
pub pins-none : (held : Rights) (pins : List Pin) → pins ≡ [] → ArePins held [] pins
pins-none held pins e = record {
  told = λ pin h. absurd (contains-none pin (subst (λ (l : List Pin). Contains l pin) e h));
  tells = λ f s h. absurd (contains-none f h);
  whole = λ f h. absurd (contains-none f h);
}

pub last-is : {A : Type 0} (x y : A) → Contains (x ∷ []) y → x ≡ y
last-is {A} x y h = elim (contains-cases x [] y h) [
  | inl same ↦ same
  | inr none ↦ absurd (contains-none y none)
]

-- a figure who isn't fixed
pub pins-same : (held : Rights) (S : Sketch) (f : Figure) (pins : List Pin) → length f.squares ≡ 64 → ((s : ℕ) → is_fixed_on s f ≡ false) → ArePins held S pins → ArePins held (S ++ f ∷ []) pins
pins-same held S f pins size loose was = record {
  told = λ pin h. let x = was.told pin h in record { figure = x.figure; member = Contains-append_left S (f ∷ []) x.figure x.member; is = x.is };
  tells = λ g s h fixed. elim (Contains-append_cases S (f ∷ []) g h) [
    | inl before ↦ was.tells g s before fixed
    | inr here ↦ let same : f ≡ g = last-is f g here in absurd (both_ways _ (loose s) (ap (is_fixed_on s) same ∙ fixed))
  ];
  whole = λ g h. elim (Contains-append_cases S (f ∷ []) g h) [
    | inl before ↦ was.whole g before
    | inr here ↦ let same : f ≡ g = last-is f g here in ap (λ (x : Figure). length x.squares) (sym same) ∙ size
  ];
}

-- a fixed one
pub pins-more : (held : Rights) (S : Sketch) (f : Figure) (pins : List Pin) (pin : Pin) → length f.squares ≡ 64 → IsPin held f pin → ArePins held S pins → ArePins held (S ++ f ∷ []) (pins ++ pin ∷ [])
pins-more held S f pins pin size is was = record {
  told = λ p h. elim (Contains-append_cases pins (pin ∷ []) p h) [
    | inl before ↦ let x = was.told p before in record { figure = x.figure; member = Contains-append_left S (f ∷ []) x.figure x.member; is = x.is }
    | inr here ↦ let same : pin ≡ p = last-is pin p here in record { figure = f; member = Contains-append_right S (f ∷ []) f (contains-first f []); is = subst (IsPin held f) same is }
  ];
  tells = λ g s h fixed. elim (Contains-append_cases S (f ∷ []) g h) [
    | inl before ↦ let x = was.tells g s before fixed in record { pin = x.pin; member = Contains-append_left pins (pin ∷ []) x.pin x.member; is = x.is; square = x.square }
    | inr here ↦
        let same : f ≡ g = last-is f g here in
        record {
          pin = pin;
          member = Contains-append_right pins (pin ∷ []) pin (contains-first pin []);
          is = subst (λ (x : Figure). IsPin held x pin) same is;
          square = fixed-once f pin.square s size is.fixed (ap (is_fixed_on s) same ∙ fixed);
        }
  ];
  whole = λ g h. elim (Contains-append_cases S (f ∷ []) g h) [
    | inl before ↦ was.whole g before
    | inr here ↦ let same : f ≡ g = last-is f g here in ap (λ (x : Figure). length x.squares) (sym same) ∙ size
  ];
}

-- a pin that passes
some-pin : (p : Pin → Bool) (pins : List Pin) → list_any p pins ≡ true → (pin : Pin) × Contains pins pin × (p pin ≡ true)
some-pin p [] h = absurd (both_ways false refl h)
some-pin p (pin ∷ pins) h = elim (or_cases (p pin) (list_any p pins) h) [
  | inl here ↦ (pin, contains-first pin pins, here)
  | inr later ↦ let x = some-pin p pins later in (x.0, contains-later pin pins x.0 x.1, x.2)
]

pin-there : (p : Pin → Bool) (pins : List Pin) (pin : Pin) → Contains pins pin → p pin ≡ true → list_any p pins ≡ true
pin-there p [] pin h here = absurd (contains-none pin h)
pin-there p (q ∷ pins) pin h here = elim (contains-cases q pins pin h) [
  | inl same ↦ or_left (p q) (list_any p pins) (ap p same ∙ here)
  | inr later ↦ or_right (p q) (list_any p pins) (pin-there p pins pin later here)
]

-- what is known of a set on the way to the greatest frozen set
pub record Shrunk (held : Rights) (S : Sketch) (set_ : List Bool) : Type 0 where
  pub size : length set_ ≡ 64
  pub holds : (inner : List Bool) → IsFrozenIn held S inner → IsWithin inner set_

module _ (held : Rights) (S : Sketch) (pins : List Pin) (are : ArePins held S pins) where
  -- squares that stay
  pub kept-told : (set_ : List Bool) (s : ℕ) → is_in (kept pins set_) s ≡ true → (is_in set_ s ≡ true) × IsBarred held S set_ s
  unfolding kept
  kept-told set_ s member =
      let here = in-that (λ s. list_any (stays set_ s) pins) s member in
      let x = some-pin (stays set_ s) pins here.1 in
      let pin : Pin = x.0 in
      let parts = and_parts ((pin.square == s) && is_in set_ s) (pin.held || covers set_ pin.entries) x.2 in
      let two = and_parts (pin.square == s) (is_in set_ s) parts.0 in
      let same : pin.square ≡ s = eqb-true pin.square s two.0 in
      let of : PinOf held S pin = are.told pin x.1 in
      let number = number-of S of.figure of.member in (
        two.1,
        record {
          number = number.0;
          figure = of.figure;
          there = number.1;
          fixed = ap (λ (n : ℕ). is_fixed_on n of.figure) (sym same) ∙ of.is.fixed;
          barred = elim (or_cases pin.held (covers set_ pin.entries) parts.1) [
            | inl home ↦ inl (ap (is_held_home held) (sym same) ∙ sym of.is.held_is ∙ home)
            | inr covered ↦ inr (λ t inside enters. covers-told set_ pin.entries t covered inside (ap (λ (l : List Bool). is_in l t) of.is.entries_are ∙ is_in-that (figure_enters of.figure pin.square) t inside ∙ ap (λ (n : ℕ). figure_enters of.figure n t) same ∙ enters))
          ];
        },
      )

  pub kept-tells : (set_ : List Bool) (s : ℕ) → is_in set_ s ≡ true → IsBarred held S set_ s → is_in (kept pins set_) s ≡ true
  unfolding kept
  kept-tells set_ s member barred =
      let f : Figure = barred.figure in
      let has : HasPin held f pins s = are.tells f s (figure-in S barred.number f barred.there) barred.fixed in
      let pin : Pin = has.pin in
      let inside : s < 64 = member-inside f.squares s (are.whole f (figure-in S barred.number f barred.there)) (and_parts (is_in f.squares s) _ barred.fixed).0 in
      is_in-that (λ s. list_any (stays set_ s) pins) s inside
      ∙ pin-there (stays set_ s) pins pin has.member (and_from _ _ (and_from _ _ (eq-eqb pin.square s has.square) member) (elim barred.barred [
        | inl home ↦ or_left pin.held (covers set_ pin.entries) (has.is.held_is ∙ ap (is_held_home held) has.square ∙ home)
        | inr all ↦ or_right pin.held (covers set_ pin.entries) (covers-tells set_ pin.entries (λ t ti entry.
            all t ti (ap (λ (n : ℕ). figure_enters f n t) (sym has.square) ∙ sym (is_in-that (figure_enters f pin.square) t ti) ∙ ap (λ (l : List Bool). is_in l t) (sym has.is.entries_are) ∙ entry)))
      ]))

  -- more squares bar as well
  barred-more : (inner outer : List Bool) (s : ℕ) → IsWithin inner outer → IsBarred held S inner s → IsBarred held S outer s
  barred-more inner outer s within b = record {
    number = b.number;
    figure = b.figure;
    there = b.there;
    fixed = b.fixed;
    barred = elim b.barred [
      | inl home ↦ inl home
      | inr all ↦ inr (λ t inside enters. within t (all t inside enters))
    ];
  }

  pub shrunk-start : (set_ : List Bool) → set_ ≡ squares_of 18446744073709551615 → length set_ ≡ 64 → Shrunk held S set_
  shrunk-start set_ e size = record {
    size = size;
    holds = λ inner frozen s member.
        let b = frozen s member in
        let inside : s < 64 = member-inside b.figure.squares s (are.whole b.figure (figure-in S b.number b.figure b.there)) (and_parts (is_in b.figure.squares s) _ b.fixed).0 in
        ap (λ (l : List Bool). is_in l s) e ∙ all-in s inside;
  }

  length-kept : (set_ : List Bool) → length (kept pins set_) ≡ 64
  unfolding kept
  length-kept set_ = length-that (λ s. list_any (stays set_ s) pins)

  pub shrunk-more : (set_ left : List Bool) → left ≡ kept pins set_ → Shrunk held S set_ → Shrunk held S left
  shrunk-more set_ left e was =
      subst (Shrunk held S) (sym e) (record {
        size = length-kept set_;
        holds = λ inner frozen s member. kept-tells set_ s (was.holds inner frozen s member) (barred-more inner set_ s (was.holds inner frozen) (frozen s member));
      })

  pub shrunk-less : (set_ left : List Bool) → left ≡ kept pins set_ → (left ≡ set_ → ⊥) → Shrunk held S set_ → count left < count set_
  shrunk-less set_ left e changed was =
      let size : length left ≡ 64 = ap length e ∙ length-kept set_ in
      elim (fewer left set_ (size ∙ sym was.size) (λ s member. (kept-told set_ s (ap (λ (l : List Bool). is_in l s) (sym e) ∙ member)).0)) [
        | inl same ↦ absurd (changed same)
        | inr less ↦ less
      ]

  pub fixed-frozen : (set_ left : List Bool) → left ≡ kept pins set_ → left ≡ set_ → IsFrozenIn held S set_
  fixed-frozen set_ left e same s member = (kept-told set_ s (ap (λ (l : List Bool). is_in l s) (sym e ∙ same) ∙ member)).1

-- one fixed figure more
stays-split : (set_ : List Bool) (s : ℕ) (pin : Pin) → stays set_ s pin ≡ ((pin.square == s) && (is_in set_ pin.square && (pin.held || covers set_ pin.entries)))
stays-split set_ s pin = same_truth _ _
    (λ h.
    let parts = and_parts ((pin.square == s) && is_in set_ s) (pin.held || covers set_ pin.entries) h in
    let two = and_parts (pin.square == s) (is_in set_ s) parts.0 in
    and_from _ _ two.0 (and_from _ _ (ap (is_in set_) (eqb-true pin.square s two.0) ∙ two.1) parts.1))
    (λ h.
    let parts = and_parts (pin.square == s) (is_in set_ pin.square && (pin.held || covers set_ pin.entries)) h in
    let two = and_parts (is_in set_ pin.square) (pin.held || covers set_ pin.entries) parts.1 in
    and_from _ _ (and_from _ _ parts.0 (ap (is_in set_) (sym (eqb-true pin.square s parts.0)) ∙ two.0)) two.1)

or-false : (x : Bool) → x ≡ (x || false)
or-false true = refl
or-false false = refl

or-true : (x : Bool) → true ≡ (x || true)
or-true true = refl
or-true false = refl

and-false : (x : Bool) → (x && false) ≡ false
and-false true = refl
and-false false = refl

pub stays-in : (set_ left next : List Bool) (s : ℕ) (pin : Pin) (x : Bool) → length set_ ≡ 64 → length left ≡ 64 → (is_in set_ pin.square && (pin.held || covers set_ pin.entries)) ≡ true → next ≡ set left pin.square true → is_in left s ≡ x → is_in next s ≡ (x || stays set_ s pin)
stays-in set_ left next s pin x whole size on made was =
    let inside : pin.square < 64 = member-inside set_ pin.square whole (and_parts (is_in set_ pin.square) _ on).0 in
    ap (λ (l : List Bool). is_in l s) made ∙ elim (cases_eq s pin.square) [
      | inl same ↦
          let here : stays set_ s pin ≡ true = stays-split set_ s pin ∙ and_from _ _ (eq-eqb pin.square s (sym same)) on in
          ap (is_in (set left pin.square true)) same ∙ get_or-set_same left pin.square true false (omega arith) ∙ or-true x ∙ ap (λ (b : Bool). x || b) (sym here)
      | inr other ↦
          let none : stays set_ s pin ≡ false = stays-split set_ s pin ∙ ap (λ (b : Bool). b && (is_in set_ pin.square && (pin.held || covers set_ pin.entries))) (ne_eqb pin.square s (λ e. other (sym e))) in
          get_or-set_other left pin.square s true false other ∙ was ∙ or-false x ∙ ap (λ (b : Bool). x || b) (sym none)
    ]

pub stays-out : (set_ left next : List Bool) (s : ℕ) (pin : Pin) (x : Bool) → (is_in set_ pin.square && (pin.held || covers set_ pin.entries)) ≡ false → next ≡ left → is_in left s ≡ x → is_in next s ≡ (x || stays set_ s pin)
stays-out set_ left next s pin x off made was =
    let none : stays set_ s pin ≡ false = stays-split set_ s pin ∙ ap (λ (b : Bool). (pin.square == s) && b) off ∙ and-false (pin.square == s) in
    ap (λ (l : List Bool). is_in l s) made ∙ was ∙ or-false x ∙ ap (λ (b : Bool). x || b) (sym none)

pub kept-end : (pins : List Pin) (set_ left : List Bool) → length left ≡ 64 → ((s : ℕ) → s < 64 → is_in left s ≡ list_any (stays set_ s) pins) → left ≡ kept pins set_
unfolding kept
kept-end pins set_ left size each = that-is (λ s. list_any (stays set_ s) pins) left size each

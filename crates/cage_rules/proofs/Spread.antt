-- A set that no single step of a piece leaves is left by none of its moves, and what such steps add is within each set that he doesn't leave.
use Rattle.std.proofs.Common.{◌≡◌, ℕ, zero, suc, ◌+◌, ◌-◌, ◌<◌, ◌≤◌, ◌==◌, ◌⊎◌, inl, inr, Bool, true, false, ◌&&◌, ◌||◌, not, List, length, set, refl, ap, sym, ◌∙◌, subst, arith}
use Rattle.std.proofs.lemmas.Bool.{and_parts, and_from, or_cases, or_left, or_right, cases_eq, eqb-true, ne_eqb, not-true, not_from_false, both_ways}
use Rattle.std.proofs.lemmas.List.{get_or-set_same, get_or-set_other, length-set}
use Rattle.std.specs.Prelude.{Option, Some}
use Rattle.std.specs.List.{list_all, range_with_len}
use Rattle.board_base.specs.Board.{Places, at, is_a, is_empty, is_in, file, rank, same_kind}
use Rattle.board_base.specs.Attacks.{distance, is_open, kind_attacks, king_distance, on_one_diagonal, on_one_line, on_the_way}
use Rattle.board_base.specs.Legal.{is_officer}
use Rattle.board_base.specs.Squares.{squares_of}
use Rattle.board_base.specs.SquareNumbers.{length-squares_of}
use Rattle.board_base.specs.declared.men.Man.{Man}
use Rattle.board_base.specs.declared.men.Colour.{Colour}
use Rattle.board_base.specs.declared.men.Kind.{Kind}
use Rattle.board_base.specs.declared.men.Kind.TheVariants.{Pawn, Knight, Bishop, Rook, Queen, King}
use Rattle.general_lemmas.proofs.Ranges.{all_in_range}
use Rattle.general_lemmas.proofs.Rounds.{count, count-le, fewer}
use Rattle.play_rules.specs.Reach.{IsWithin}
use Rattle.cage_rules.specs.Frozen.{is_next}
use Rattle.cage_rules.specs.Regions.{IsLeastFrom, beginner, is_closed, is_officer_home, wall, walls}
use Rattle.cage_rules.specs.Sets.{union}
use Rattle.cage_rules.specs.Steps.{is_diagonal_step, is_line_step, is_near, is_step, near}
use Rattle.cage_rules.specs.SetSteps.{both, is_spread, outside, spread}
use Rattle.cage_rules.proofs.Adjacent.{next-step}
use Rattle.board_base.proofs.Ways.{diagonal-back, king_distance-sym, line-back}
use Rattle.cage_rules.proofs.Entries.{knight-back}
use Rattle.cage_rules.proofs.Filling.{in-that, is_in-that, length-that, none-in-zero}
use Rattle.cage_rules.proofs.Near.{Source, is_in-near, near-tells, near-told}
use Rattle.cage_rules.proofs.SetAlgebra.{is_in-both, is_in-outside, is_in-union, length-union, that-is}
use Rattle.cage_rules.proofs.Rays.{diagonal-end, diagonal-step, line-end, line-step, no-steps}
use Rattle.cage_rules.proofs.Regions.{closed-told, closed-tells}
use Rattle.cage_rules.proofs.Tested.{member-inside}
use Rattle.cage_rules.proofs.Walls.{at-walls}

-- no single step leaves the set but into the frozen one
pub record IsStepped (k : Kind) (frozen within : List Bool) : Type 0 where
  pub size : length within ≡ 64
  pub stays : (s t : ℕ) → s < 64 → t < 64 → is_in within t ≡ true → is_step k s t ≡ true → is_in frozen s ≡ false → is_in within s ≡ true

pub wall-free : (b : Bool) → is_empty (wall b) ≡ true → b ≡ false
wall-free true h = absurd (both_ways false refl h)
wall-free false h = refl

pub open-out : (frozen : List Bool) (s : ℕ) → s < 64 → is_empty (at (walls frozen) s) ≡ true → is_in frozen s ≡ false
open-out frozen s inside none = wall-free (is_in frozen s) (sym (ap is_empty (at-walls frozen s inside)) ∙ none)

-- a way of single steps, each to a square that is open
abbrev StepsOn : Kind → ℕ → ℕ → Type 0
StepsOn k t u = (i : ℕ) → i < king_distance t u → (on_the_way t u i < 64) × (on_the_way t u (i + 1) < 64) × (is_step k (on_the_way t u (i + 1)) (on_the_way t u i) ≡ true)

along-way : (k : Kind) (frozen within : List Bool) (t u : ℕ) → IsStepped k frozen within → StepsOn k t u → is_open (walls frozen) t u ≡ true → on_the_way t u (king_distance t u) ≡ u → is_in frozen u ≡ false → is_in within t ≡ true → (i : ℕ) → i ≤ king_distance t u → is_in within (on_the_way t u i) ≡ true
along-way k frozen within t u stepped steps clear end out member zero far = ap (is_in within) (no-steps t u) ∙ member
along-way k frozen within t u stepped steps clear end out member (suc i) far =
    let n : ℕ = king_distance t u in
    let here = steps i (omega arith) in
    let e : i + 1 ≡ suc i = omega arith in
    let before : is_in within (on_the_way t u i) ≡ true = along-way k frozen within t u stepped steps clear end out member i (omega arith) in
    let free : is_in frozen (on_the_way t u (i + 1)) ≡ false = elim (cases_eq (i + 1) n) [
      | inl last ↦ ap (λ (x : ℕ). is_in frozen (on_the_way t u x)) last ∙ ap (is_in frozen) end ∙ out
      | inr more ↦ open-out frozen (on_the_way t u (i + 1)) here.1 (all_in_range (λ x. is_empty (at (walls frozen) (on_the_way t u x))) 1 (n - 1) (i + 1) clear (omega arith) (omega arith))
    ] in
    ap (λ (x : ℕ). is_in within (on_the_way t u x)) (sym e) ∙ stepped.stays (on_the_way t u (i + 1)) (on_the_way t u i) here.1 here.0 before here.2 free

way-there : (k : Kind) (frozen within : List Bool) (t u : ℕ) → IsStepped k frozen within → StepsOn k t u → is_open (walls frozen) t u ≡ true → on_the_way t u (king_distance t u) ≡ u → is_in frozen u ≡ false → is_in within t ≡ true → is_in within u ≡ true
way-there k frozen within t u stepped steps clear end out member =
    ap (is_in within) (sym end) ∙ along-way k frozen within t u stepped steps clear end out member (king_distance t u) (omega arith)

line-goes : (k : Kind) (frozen within : List Bool) (t u : ℕ) → ((a b : ℕ) → is_line_step a b ≡ true → is_step k a b ≡ true) → t < 64 → u < 64 → IsStepped k frozen within → on_one_line t u ≡ true → is_open (walls frozen) t u ≡ true → is_in frozen u ≡ false → is_in within t ≡ true → is_in within u ≡ true
line-goes k frozen within t u so ti ui stepped line clear out member =
    way-there k frozen within t u stepped (λ i more. let ray = line-step t u i ti ui line more in (ray.inside, ray.inside_then, so _ _ (and_from _ _ ray.next ray.way))) clear (line-end t u line) out member

diagonal-goes : (k : Kind) (frozen within : List Bool) (t u : ℕ) → ((a b : ℕ) → is_diagonal_step a b ≡ true → is_step k a b ≡ true) → t < 64 → u < 64 → IsStepped k frozen within → on_one_diagonal t u ≡ true → is_open (walls frozen) t u ≡ true → is_in frozen u ≡ false → is_in within t ≡ true → is_in within u ≡ true
diagonal-goes k frozen within t u so ti ui stepped line clear out member =
    way-there k frozen within t u stepped (λ i more. let ray = diagonal-step t u i ti ui line more in (ray.inside, ray.inside_then, so _ _ (and_from _ _ ray.next ray.way))) clear (diagonal-end t u line) out member

-- an officer's move
officer-goes : (c : Colour) (k : Kind) (frozen within : List Bool) (t u : ℕ) → is_officer k ≡ true → t < 64 → u < 64 → IsStepped k frozen within → kind_attacks (walls frozen) c k t u ≡ true → is_in frozen u ≡ false → is_in within t ≡ true → is_in within u ≡ true
unfolding kind_attacks is_step
officer-goes c Pawn frozen within t u officer ti ui stepped h out member = absurd (both_ways false refl officer)
officer-goes c King frozen within t u officer ti ui stepped h out member = absurd (both_ways false refl officer)
officer-goes c Knight frozen within t u officer ti ui stepped h out member =
    stepped.stays u t ui ti member (ap (λ (n : ℕ). n == 2) (sym (knight-back t u)) ∙ h) out
officer-goes c Bishop frozen within t u officer ti ui stepped h out member =
    let parts = and_parts (not (t == u) && on_one_diagonal t u) (is_open (walls frozen) t u) h in
    diagonal-goes Bishop frozen within t u (λ a b step. step) ti ui stepped (and_parts (not (t == u)) (on_one_diagonal t u) parts.0).1 parts.1 out member
officer-goes c Rook frozen within t u officer ti ui stepped h out member =
    let parts = and_parts (not (t == u) && on_one_line t u) (is_open (walls frozen) t u) h in
    line-goes Rook frozen within t u (λ a b step. step) ti ui stepped (and_parts (not (t == u)) (on_one_line t u) parts.0).1 parts.1 out member
officer-goes c Queen frozen within t u officer ti ui stepped h out member =
    let parts = and_parts (not (t == u) && (on_one_line t u || on_one_diagonal t u)) (is_open (walls frozen) t u) h in
    elim (or_cases (on_one_line t u) (on_one_diagonal t u) (and_parts (not (t == u)) (on_one_line t u || on_one_diagonal t u) parts.0).1) [
      | inl line ↦ line-goes Queen frozen within t u (λ a b step. (and_parts _ _ step).0) ti ui stepped line parts.1 out member
      | inr diagonal ↦ diagonal-goes Queen frozen within t u (λ a b step. (and_parts _ _ step).0) ti ui stepped diagonal parts.1 out member
    ]

-- a single step is a move
next-open : (board : Places) (s t : ℕ) → is_next s t ≡ true → is_open board t s ≡ true
next-open board s t next =
    let one : king_distance t s ≡ 1 = king_distance-sym t s ∙ eqb-true _ 1 next in
    ap (λ (n : ℕ). list_all (λ k. is_empty (at board (on_the_way t s k))) (range_with_len 1 (n - 1))) one

next-other : (s t : ℕ) → is_next s t ≡ true → not (t == s) ≡ true
unfolding king_distance distance
next-other s t next = not_from_false _ (ne_eqb t s (λ same. let one : king_distance s t ≡ 1 = eqb-true _ 1 next in let same_file : file t ≡ file s = ap file same in let same_rank : rank t ≡ rank s = ap rank same in omega arith))

pub step-goes : (board : Places) (c : Colour) (k : Kind) (s t : ℕ) → is_officer k ≡ true → is_step k s t ≡ true → kind_attacks board c k t s ≡ true
unfolding kind_attacks is_step
step-goes board c Pawn s t officer h = absurd (both_ways false refl officer)
step-goes board c King s t officer h = absurd (both_ways false refl officer)
step-goes board c Knight s t officer h = ap (λ (n : ℕ). n == 2) (sym (knight-back s t)) ∙ h
step-goes board c Bishop s t officer h =
    let parts = and_parts (is_next s t) (on_one_diagonal s t) h in
    and_from _ _ (and_from _ _ (next-other s t parts.0) (diagonal-back s t parts.1)) (next-open board s t parts.0)
step-goes board c Rook s t officer h =
    let parts = and_parts (is_next s t) (on_one_line s t) h in
    and_from _ _ (and_from _ _ (next-other s t parts.0) (line-back s t parts.1)) (next-open board s t parts.0)
step-goes board c Queen s t officer h =
    let way : (is_line_step s t || is_diagonal_step s t) ≡ true = next-step s t ∙ h in
    let on : (on_one_line t s || on_one_diagonal t s) ≡ true = elim (or_cases (is_line_step s t) (is_diagonal_step s t) way) [
      | inl line ↦ or_left (on_one_line t s) (on_one_diagonal t s) (line-back s t (and_parts (is_next s t) (on_one_line s t) line).1)
      | inr diagonal ↦ or_right (on_one_line t s) (on_one_diagonal t s) (diagonal-back s t (and_parts (is_next s t) (on_one_diagonal s t) diagonal).1)
    ] in
    and_from _ _ (and_from _ _ (next-other s t h) on) (next-open board s t h)

-- what is known of a set on the way to the region
pub record Grown (frozen : List Bool) (man : Man) (h : ℕ) (within : List Bool) : Type 0 where
  pub size : length within ≡ 64
  pub home : is_in within h ≡ true
  pub least : (outer : List Bool) → is_in outer h ≡ true → is_closed frozen (Some man) outer ≡ true → IsWithin within outer

pub grown-start : (frozen : List Bool) (man : Man) (h : ℕ) (within : List Bool) → h < 64 → within ≡ set (squares_of 0) h true → Grown frozen man h within
grown-start frozen man h within inside e =
    let full : length (squares_of 0) ≡ 64 = length-squares_of 0 in
    record {
      size = ap length e ∙ length-set (squares_of 0) h true ∙ full;
      home = ap (λ (l : List Bool). is_in l h) e ∙ get_or-set_same (squares_of 0) h true false (omega arith);
      least = λ outer home closed s member. elim (cases_eq s h) [
        | inl same ↦ ap (is_in outer) same ∙ home
        | inr other ↦ absurd (both_ways _ (none-in-zero s) (sym (get_or-set_other (squares_of 0) h s true false other) ∙ ap (λ (l : List Bool). is_in l s) (sym e) ∙ member))
      ];
    }

-- how it is made of whole sets
pub spread-made : (k : Kind) (frozen within : List Bool) → union within (both (near (is_step k) within) (outside frozen)) ≡ spread k frozen within
unfolding spread
spread-made k frozen within =
    that-is (is_spread k frozen within) (union within (both (near (is_step k) within) (outside frozen))) (length-union within (both (near (is_step k) within) (outside frozen))) (λ s inside.
    is_in-union within (both (near (is_step k) within) (outside frozen)) s inside
    ∙ ap (λ (x : Bool). is_in within s || x) (is_in-both (near (is_step k) within) (outside frozen) s inside ∙ ap (λ (x : Bool). x && is_in (outside frozen) s) (is_in-near (is_step k) within s inside) ∙ ap (λ (x : Bool). is_near (is_step k) within s && x) (is_in-outside frozen s inside)))

length-spread : (k : Kind) (frozen within : List Bool) → length (spread k frozen within) ≡ 64
unfolding spread
length-spread k frozen within = length-that (is_spread k frozen within)

spread-more : (k : Kind) (frozen within : List Bool) → length within ≡ 64 → IsWithin within (spread k frozen within)
unfolding spread
spread-more k frozen within size s member = is_in-that (is_spread k frozen within) s (member-inside within s size member) ∙ or_left (is_in within s) (is_near (is_step k) within s && not (is_in frozen s)) member

spread-told : (k : Kind) (frozen within : List Bool) (s : ℕ) → is_in (spread k frozen within) s ≡ true → (s < 64) × ((is_in within s ≡ true) ⊎ (Source (is_step k) within s × (is_in frozen s ≡ false)))
unfolding spread
spread-told k frozen within s member =
    let here = in-that (is_spread k frozen within) s member in (
      here.0,
      elim (or_cases (is_in within s) (is_near (is_step k) within s && not (is_in frozen s)) here.1) [
        | inl before ↦ inl before
        | inr new ↦ let parts = and_parts (is_near (is_step k) within s) (not (is_in frozen s)) new in inr (near-told (is_step k) within s parts.0, not-true _ parts.1)
      ],
    )

pub grown-more : (frozen : List Bool) (man : Man) (h : ℕ) (within more : List Bool) → is_officer man.kind ≡ true → more ≡ spread man.kind frozen within → Grown frozen man h within → Grown frozen man h more
grown-more frozen man h within more officer e grown =
    subst (Grown frozen man h) (sym e) (record {
      size = length-spread man.kind frozen within;
      home = spread-more man.kind frozen within grown.size h grown.home;
      least = λ outer home closed s member.
          let here = spread-told man.kind frozen within s member in
          elim here.1 [
            | inl before ↦ grown.least outer home closed s before
            | inr new ↦
                let from = new.0 in
                closed-told frozen (Some man) outer from.square s closed from.inside here.0 (grown.least outer home closed from.square from.member)
                (and_from _ _ (step-goes (walls frozen) man.colour man.kind s from.square officer from.placed) (not_from_false _ new.1))
          ];
    })

pub grown-less : (frozen : List Bool) (man : Man) (h : ℕ) (within more : List Bool) → more ≡ spread man.kind frozen within → (more ≡ within → ⊥) → Grown frozen man h within → 64 - count more < 64 - count within
grown-less frozen man h within more e changed grown =
    let size : length more ≡ 64 = ap length e ∙ length-spread man.kind frozen within in
    elim (fewer within more (grown.size ∙ sym size) (λ s member. ap (λ (l : List Bool). is_in l s) e ∙ spread-more man.kind frozen within grown.size s member)) [
      | inl same ↦ absurd (changed (sym same))
      | inr less ↦ let all : count more ≤ length more = count-le more in omega arith
    ]

fixed-stepped : (k : Kind) (frozen within : List Bool) → length within ≡ 64 → spread k frozen within ≡ within → IsStepped k frozen within
unfolding spread
fixed-stepped k frozen within full fixed = record {
  size = full;
  stays = λ s t si ti member step out.
      ap (λ (l : List Bool). is_in l s) (sym fixed) ∙ is_in-that (is_spread k frozen within) s si
      ∙ or_right (is_in within s) (is_near (is_step k) within s && not (is_in frozen s)) (and_from _ _ (near-tells (is_step k) within s (record { square = t; inside = ti; placed = step; member = member })) (not_from_false _ out));
}

fixed-closed : (frozen : List Bool) (man : Man) (within : List Bool) → length within ≡ 64 → is_officer man.kind ≡ true → spread man.kind frozen within ≡ within → is_closed frozen (Some man) within ≡ true
fixed-closed frozen man within full officer fixed =
    closed-tells frozen (Some man) within (λ t u ti ui member goes.
    let parts = and_parts (kind_attacks (walls frozen) man.colour man.kind t u) (not (is_in frozen u)) goes in
    officer-goes man.colour man.kind frozen within t u officer ti ui (fixed-stepped man.kind frozen within full fixed) parts.0 (not-true _ parts.1) member)

-- what no step makes larger is the region
pub grown-least : (frozen : List Bool) (man : Man) (h : ℕ) (within more : List Bool) → is_officer man.kind ≡ true → more ≡ spread man.kind frozen within → more ≡ within → Grown frozen man h within → IsLeastFrom frozen (Some man) h within
grown-least frozen man h within more officer e fixed grown = record {
  size = grown.size;
  home = grown.home;
  closed = fixed-closed frozen man within grown.size officer (sym e ∙ fixed);
  least = grown.least;
}

-- the officers' homes
kind-officer : (k : Kind) → (same_kind Knight k || same_kind Bishop k || same_kind Rook k || same_kind Queen k) ≡ true → is_officer k ≡ true
kind-officer Pawn h = h
kind-officer Knight h = refl
kind-officer Bishop h = refl
kind-officer Rook h = refl
kind-officer Queen h = refl
kind-officer King h = h

officer-of-kind : (place : Option Man) (man : Man) → place ≡ Some man → (is_a Knight place || is_a Bishop place || is_a Rook place || is_a Queen place) ≡ true → is_officer man.kind ≡ true
officer-of-kind place man e h = kind-officer man.kind (ap (λ (p : Option Man). is_a Knight p || is_a Bishop p || is_a Rook p || is_a Queen p) (sym e) ∙ h)

pub home-officer : (h : ℕ) (man : Man) → is_officer_home h ≡ true → beginner h ≡ Some man → is_officer man.kind ≡ true
home-officer h man home e = officer-of-kind (beginner h) man e home

-- In every game each square is trodden by one at most of the pawns who keep to their files, and so passes its gate once.
use Rattle.std.proofs.Common.{◌≡◌, ◌≢◌, ℕ, ◌+◌, ◌<◌, ◌≤◌, Bool, true, false, cond, inl, inr, List, [], ◌∷◌, ◌++◌, refl, sym, ◌∙◌, arith}
use Rattle.std.proofs.lemmas.Bool.{and_parts, eqb-true, or_cases}
use Rattle.std.proofs.lemmas.List.Sums.{sum_by-append}
use Rattle.std.specs.Prelude.{Some}
use Rattle.std.specs.List.{AllPairs, Contains, flat_map, range_with_len, sum_by}
use Rattle.board_base.specs.Board.{array_of, at, is_the, file}
use Rattle.board_base.specs.Game.{IsGame}
use Rattle.board_base.specs.declared.men.Colour.{Colour}
use Rattle.board_base.specs.declared.men.Colour.TheVariants.{White, Black}
use Rattle.board_base.specs.declared.men.Kind.TheVariants.{Pawn}
use Rattle.board_base.specs.declared.moves.Move.{Move}
use Rattle.general_lemmas.proofs.Differing.{Has, Differ, contains-has, differ-append, has-either, has-range}
use Rattle.general_lemmas.proofs.Ranges.{any-one}
use Rattle.general_lemmas.proofs.SumsAmong.{sum-among}
use Rattle.men_account.specs.Labels.{Labels, label_at, labels_after}
use Rattle.men_account.proofs.FilesLeft.{array-inside, array-pawn}
use Rattle.men_account.proofs.Captured.{has-cond}
use Rattle.men_account.proofs.PawnLaws.{same-label}
use Rattle.men_fates.specs.Deeds.{is_label, way_of}
use Rattle.men_fates.proofs.MoreDeeds.{label-told}
use Rattle.men_ledger.specs.Files.{gates_passed, is_there, keeps_file, trodden}
use Rattle.men_ledger.proofs.Keyed.{differ-pairs}
use Rattle.men_ledger.proofs.Flat.{differ-flat, has-flat, sum-flat}
use Rattle.men_ledger.proofs.Lines.{each-beyond, straight-each, way-differ, way-inside}
use Rattle.men_ledger.proofs.Courses.{ways}
use Rattle.men_ledger.proofs.Facing.{Keeps, facing, own-side}

label-there : (labels : Labels) (h : ℕ) → is_there labels h ≡ true → (s : ℕ) × (label_at labels s ≡ Some h)
label-there labels h there =
    let found = any-one (λ s. is_label (label_at labels s) h) 0 64 there in
    (found.number, label-told (label_at labels found.number) h found.passes)

-- what is told of a pawn who treads squares of his file
record Trod (o : List Bool) (g : List Move) (c : Colour) (h z : ℕ) : Type 0 where
  home : is_the c Pawn (at (array_of o) h) ≡ true
  keeps : Keeps o c h g
  square : Has (h ∷ way_of o g h) z

kept : (o : List Bool) (g : List Move) (c : Colour) (h : ℕ) → keeps_file o g c h ≡ true → (is_the c Pawn (at (array_of o) h) ≡ true) × Keeps o c h g
kept o g c h all =
    let parts = and_parts _ _ all in
    let first = and_parts _ _ parts.0 in (
      first.0,
      record {
        straight = first.1;
        there = elim (or_cases _ _ parts.1) [
          | inl here ↦ inl (label-there (labels_after o g) h here)
          | inr last ↦ inr (eqb-true _ _ last)
        ];
      },
    )

trod : (o : List Bool) (g : List Move) (c : Colour) (h z : ℕ) → Has (trodden o g c h) z → Trod o g c h z
trod o g c h z there =
    let parts = has-cond (keeps_file o g c h) (h ∷ way_of o g h) z there in
    let told = kept o g c h parts.0 in
    record { home = told.0; keeps = told.1; square = parts.1 }

-- all squares are on the file of the home
trod-line : (o : List Bool) (g : List Move) (c : Colour) (h z : ℕ) → Trod o g c h z → file z ≡ file h
trod-line o g c h z it = straight-each h (way_of o g h) z it.keeps.straight it.square

-- two pawns of one file, one of each side
never-both : (o : List Bool) (g : List Move) (h k z : ℕ) → IsGame o g → Trod o g White h z → Trod o g Black k z → ⊥
never-both o g h k z game white black =
    let before = facing o h k (record { home = white.home; other = black.home; line = sym (trod-line o g White h z white) ∙ trod-line o g Black k z black }) g game white.keeps black.keeps in
    let low = each-beyond White [] h (way_of o g h) z (ways o White h (own-side o White h white.home) g game) white.square in
    let high = each-beyond Black [] k (way_of o g k) z (ways o Black k (own-side o Black k black.home) g game) black.square in
    omega arith

one-home : (o : List Bool) (g : List Move) (c : Colour) (h k z : ℕ) → Trod o g c h z → Trod o g c k z → h ≡ k
one-home o g c h k z one other = same-label c h k (array-pawn o c h one.home) (array-pawn o c k other.home) (sym (trod-line o g c h z one) ∙ trod-line o g c k z other)

both-trod : (o : List Bool) (g : List Move) (c d : Colour) (h k z : ℕ) → IsGame o g → Trod o g c h z → Trod o g d k z → h ≡ k
both-trod o g White White h k z game one other = one-home o g White h k z one other
both-trod o g Black Black h k z game one other = one-home o g Black h k z one other
both-trod o g White Black h k z game one other = absurd (never-both o g h k z game one other)
both-trod o g Black White h k z game one other = absurd (never-both o g k h z game other one)

pub trodden-once : (o : List Bool) (g : List Move) (c d : Colour) (h k s : ℕ) → IsGame o g → Contains (trodden o g c h) s → Contains (trodden o g d k) s → h ≡ k
trodden-once o g c d h k s game one other =
    both-trod o g c d h k s game (trod o g c h s (contains-has (trodden o g c h) s one)) (trod o g d k s (contains-has (trodden o g d k) s other))

differ-cond : (b : Bool) (xs : List ℕ) → (b ≡ true → Differ xs) → Differ (cond b xs [])
differ-cond true xs d = d refl
differ-cond false xs d = tt

-- nobody treads a square twice
trodden-differ : (o : List Bool) (g : List Move) (c : Colour) (h : ℕ) → IsGame o g → Differ (trodden o g c h)
trodden-differ o g c h game = differ-cond (keeps_file o g c h) (h ∷ way_of o g h) (λ all. way-differ c [] h (way_of o g h) (ways o c h (own-side o c h (kept o g c h all).0) g game))

trodden-inside : (o : List Bool) (g : List Move) (c : Colour) (h z : ℕ) → IsGame o g → Has (trodden o g c h) z → z < 64
trodden-inside o g c h z game there =
    let it = trod o g c h z there in
    way-inside c [] h (way_of o g h) z (array-inside o (is_the c Pawn) h refl it.home) (ways o c h (own-side o c h it.home) g game) it.square

flat-differ : (o : List Bool) (g : List Move) (c : Colour) (homes : List ℕ) → IsGame o g → AllPairs (λ h k. h ≢ k) homes → Differ (flat_map (trodden o g c) homes)
flat-differ o g c homes game differ = differ-flat (trodden o g c) homes (differ-pairs homes differ) (λ h. trodden-differ o g c h game) (λ h k z one other. both-trod o g c c h k z game (trod o g c h z one) (trod o g c k z other))

flat-apart : (o : List Bool) (g : List Move) (white black : List ℕ) (z : ℕ) → IsGame o g → Has (flat_map (trodden o g White) white) z → Has (flat_map (trodden o g Black) black) z → ⊥
flat-apart o g white black z game one other =
    let a = has-flat (trodden o g White) white z one in
    let b = has-flat (trodden o g Black) black z other in
    never-both o g a.0 b.0 z game (trod o g White a.0 z a.2) (trod o g Black b.0 z b.2)

flat-inside : (o : List Bool) (g : List Move) (c : Colour) (homes : List ℕ) (z : ℕ) → IsGame o g → Has (flat_map (trodden o g c) homes) z → z < 64
flat-inside o g c homes z game there = let it = has-flat (trodden o g c) homes z there in trodden-inside o g c it.0 z game it.2

pub gates-most : (o : List Bool) (g : List Move) (gate : ℕ → ℕ) (white black : List ℕ) → IsGame o g → AllPairs (λ h k. h ≢ k) white → AllPairs (λ h k. h ≢ k) black → sum_by (gates_passed gate o g White) white + sum_by (gates_passed gate o g Black) black ≤ sum_by gate (range_with_len 0 64)
gates-most o g gate white black game differ apart =
    let ours : List ℕ = flat_map (trodden o g White) white in
    let theirs : List ℕ = flat_map (trodden o g Black) black in
    let all = sum-among gate (ours ++ theirs) (range_with_len 0 64) (differ-append ours theirs (flat-differ o g White white game differ) (flat-differ o g Black black game apart) (λ z one other. flat-apart o g white black z game one other)) (λ z there.
    has-range 0 64 z (omega arith) (let small : z < 64 = elim (has-either ours theirs z there) [
      | inl one ↦ flat-inside o g White white z game one
      | inr other ↦ flat-inside o g Black black z game other
    ] in omega arith)) in
    omega (arith, all, sum_by-append gate ours theirs, sum-flat gate (trodden o g White) white, sum-flat gate (trodden o g Black) black)

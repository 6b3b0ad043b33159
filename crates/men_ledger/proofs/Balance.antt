-- What a side's pawns pay by their captures is what the men earn whom they take.
use Rattle.std.proofs.Common.{◌≡◌, ◌≢◌, ℕ, ◌+◌, ◌==◌, arith, Bool, true, List, [], ◌∷◌, map, refl, ap, sym, ◌∙◌, subst}
use Rattle.std.proofs.lemmas.Bool.{ne_eqb}
use Rattle.std.specs.Prelude.{Some}
use Rattle.std.specs.List.{AllPairs, Contains, sum_by}
use Rattle.board_base.specs.Board.{array_of, at, is_of, is_the, opponent}
use Rattle.board_base.specs.Game.{IsGame}
use Rattle.board_base.specs.declared.men.Colour.{Colour}
use Rattle.board_base.specs.declared.men.Kind.TheVariants.{Pawn}
use Rattle.board_base.specs.declared.moves.Move.{Move}
use Rattle.general_lemmas.proofs.Differing.{Differ, contains-has}
use Rattle.men_account.specs.Labels.{label_at, labels_after}
use Rattle.men_account.proofs.Captured.{captured-differ}
use Rattle.men_fates.specs.Deeds.{Strike, strikes}
use Rattle.men_fates.proofs.Blows.{each-by-pawn, each-of-enemy, fallen-gone}
use Rattle.men_fates.proofs.Strikes.{strikes-take}
use Rattle.men_ledger.specs.Ledger.{earned, paid, turnover}
use Rattle.men_ledger.proofs.Keyed.{sum-by-keys, none-picked, key-alone, differ-pairs, pairs-keys}

-- no two captures take one man
victims-differ : (o : List Bool) (g : List Move) (c : Colour) → IsGame o g → Differ (map (λ x. x.of) (strikes o g c))
victims-differ o g c game = subst Differ (sym (strikes-take o g c game)) (captured-differ o g c game)

pub taken-once : (o : List Bool) (g : List Move) (c : Colour) → IsGame o g → AllPairs (λ x y. x.of ≢ y.of) (strikes o g c)
taken-once o g c game = pairs-keys (λ (x : Strike). x.of) (strikes o g c) (victims-differ o g c game)

pub taken-gone : (o : List Bool) (g : List Move) (c : Colour) → IsGame o g → (x : Strike) → Contains (strikes o g c) x → (s : ℕ) → label_at (labels_after o g) s ≡ Some x.of → ⊥
taken-gone o g c game x there = fallen-gone o g c x game there

pub paid-in-all : (o : List Bool) (g : List Move) (c : Colour) (price : ℕ → ℕ) (homes : List ℕ) → IsGame o g → AllPairs (λ h k. h ≢ k) homes → ((h : ℕ) → is_the c Pawn (at (array_of o) h) ≡ true → Contains homes h) → sum_by (paid price (strikes o g c)) homes ≡ turnover price (strikes o g c)
paid-in-all o g c price homes game differ all =
    sum-by-keys price (λ (x : Strike). x.on) (λ (x : Strike). x.by) homes (strikes o g c) (differ-pairs homes differ) (λ x there. contains-has homes x.by (all x.by (each-by-pawn o g c game x there)))

pub earned-in-all : (o : List Bool) (g : List Move) (c : Colour) (price : ℕ → ℕ) (homes : List ℕ) → IsGame o g → AllPairs (λ h k. h ≢ k) homes → ((h : ℕ) → is_of (opponent c) (at (array_of o) h) ≡ true → Contains homes h) → sum_by (earned price (strikes o g c)) homes ≡ turnover price (strikes o g c)
earned-in-all o g c price homes game differ all =
    sum-by-keys price (λ (x : Strike). x.on) (λ (x : Strike). x.of) homes (strikes o g c) (differ-pairs homes differ) (λ x there. contains-has homes x.of (all x.of (each-of-enemy o g c game x there)))

pub balanced : (o : List Bool) (g : List Move) (c : Colour) (price : ℕ → ℕ) (ours theirs : List ℕ) → IsGame o g → AllPairs (λ h k. h ≢ k) ours → AllPairs (λ h k. h ≢ k) theirs → ((h : ℕ) → is_the c Pawn (at (array_of o) h) ≡ true → Contains ours h) → ((h : ℕ) → is_of (opponent c) (at (array_of o) h) ≡ true → Contains theirs h) → sum_by (paid price (strikes o g c)) ours ≡ sum_by (earned price (strikes o g c)) theirs
balanced o g c price ours theirs game differ apart all each = paid-in-all o g c price ours game differ all ∙ sym (earned-in-all o g c price theirs game apart each)

-- who is taken earns the price of the square, and who isn't earns nothing
pub earns-price : (o : List Bool) (g : List Move) (c : Colour) (price : ℕ → ℕ) → IsGame o g → (x : Strike) → Contains (strikes o g c) x → earned price (strikes o g c) x.of ≡ price x.on
earns-price o g c price game x there = ap (λ (l : List Strike). sum_by price (map (λ y. y.on) l)) (key-alone (λ (y : Strike). y.of) (strikes o g c) x (victims-differ o g c game) there) ∙ (let one : sum_by price (x.on ∷ []) ≡ 0 + price x.on = refl in omega arith)

pub earns-nothing : (price : ℕ → ℕ) (all : List Strike) (h : ℕ) → ((x : Strike) → Contains all x → x.of ≢ h) → earned price all h ≡ 0
earns-nothing price all h none = ap (λ (l : List Strike). sum_by price (map (λ y. y.on) l)) (none-picked (λ (y : Strike). y.of == h) all (λ y there. ne_eqb y.of h (none y there)))

-- a man on the board has earned nothing
pub earns-later : (o : List Bool) (g : List Move) (c : Colour) (price : ℕ → ℕ) (s h : ℕ) → IsGame o g → label_at (labels_after o g) s ≡ Some h → earned price (strikes o g c) h ≡ 0
earns-later o g c price s h game label = earns-nothing price (strikes o g c) h (λ x there same. taken-gone o g c game x there s (label ∙ ap Some (sym same)))

-- In every game the files on which a side's pawns began are different, and cost no more captures than its pawns made; so their
-- least cost, and the sum of potentials that bound it, are no more.
use Rattle.std.proofs.Common.{subst, ◌+◌, ◌≡◌, ℕ, zero, suc, ◌<◌, ◌≤◌, Bool, true, false, cond, inl, inr, List, [], ◌∷◌, length, map, get_or, refl, ap, sym, ◌∙◌, arith}
use Rattle.std.proofs.lemmas.Bool.{both_ways}
use Rattle.std.proofs.lemmas.List.{length-map}
use Rattle.std.proofs.lemmas.List.Sums.{sum_by-cons}
use Rattle.std.specs.Prelude.{Option, Some, None, is_none, ℤ, pos, ◌+ℤ◌, ◌≤ℤ◌}
use Rattle.std.proofs.lemmas.Int.{ints}
use Rattle.std.specs.List.{sum_by, range_with_len}
use Rattle.board_base.specs.Board.{Places, array_of, initial_array, is_in, is_empty, at, is_the, opponent, file, rank}
use Rattle.board_base.specs.Attacks.{distance}
use Rattle.board_base.specs.Legal.{pawn_rank}
use Rattle.board_base.specs.Game.{IsGame, board_after}
use Rattle.board_base.specs.declared.men.Colour.{Colour}
use Rattle.board_base.specs.declared.men.Colour.TheVariants.{White, Black}
use Rattle.board_base.specs.declared.men.Kind.TheVariants.{Pawn}
use Rattle.board_base.specs.declared.men.Man.{Man}
use Rattle.board_base.specs.declared.moves.Move.{Move}
use Rattle.board_base.proofs.Without.{at-without}
use Rattle.assignment.specs.Assignments.{IsBounded, IsInjection, assignment_cost, least_cost, total}
use Rattle.assignment.proofs.Injections.{least_cost-le}
use Rattle.pawn_assign.specs.PawnCosts.{HaveCome, can_come, files_aside, pawn_costs, pawn_home, pawn_squares}
use Rattle.pawn_assign.proofs.Aside.{costs_aside}
use Rattle.pawn_assign.proofs.EachPawn.{no_less, rows}
use Rattle.men_account.specs.Labels.{Labels, label_at, labels_after}
use Rattle.men_account.specs.Captures.{captured_by_pawns, files_left, all_files_left}
use Rattle.men_account.specs.Account.{is_any}
use Rattle.men_account.specs.Homes.{men_of, AreGoneOtherwise}
use Rattle.men_account.proofs.Missing.{men-missing}
use Rattle.general_lemmas.proofs.Differing.{Has, differ-apart, differ-range, has-filter, differ-filter, differ-map}
use Rattle.general_lemmas.proofs.SumsAmong.{sum-filter}
use Rattle.men_account.proofs.Labelled.{labels-each_man}
use Rattle.men_account.proofs.FilesLeft.{pawns-from, left-after, left-pawn}
use Rattle.men_account.proofs.PawnLaws.{files-apart, man-of}

-- the file on which the man on a square began
abbrev first_file : Option ℕ → ℕ
first_file None = 0
first_file (Some l) = file l

-- what is known of each pawn's square
record Stands (o : List Bool) (c : Colour) (board : Places) (labels : Labels) (s : ℕ) : Type 0 where
  home : ℕ
  pawn : is_the c Pawn (at board s) ≡ true
  label : label_at labels s ≡ Some home
  at_home : is_the c Pawn (at (array_of o) home) ≡ true
  rank_is : rank home ≡ pawn_rank c
  comes : can_come c s (file home) ≡ true

-- a man who began on a square was not left out
not-out : (b : Bool) (place : Option Man) (p : Option Man → Bool) → p None ≡ false → p (cond b None place) ≡ true → b ≡ false
not-out true place p none h = absurd (both_ways _ none h)
not-out false place p none h = refl

not-left-out : (o : List Bool) (p : Option Man → Bool) (s : ℕ) → p None ≡ false → p (at (array_of o) s) ≡ true → is_in o s ≡ false
unfolding array_of
not-left-out o p s none h = not-out (is_in o s) (at initial_array s) p none (sym (ap p (at-without o initial_array s)) ∙ h)

home-is : (c : Colour) (l : ℕ) → rank l ≡ pawn_rank c → pawn_home c (file l) ≡ l
home-is White l e = omega arith
home-is Black l e = omega arith

-- the files that they have gone aside are those that they have left
aside-is : (o : List Bool) (c : Colour) (board : Places) (labels : Labels) (squares : List ℕ) → ((s : ℕ) → Has squares s → Stands o c board labels s) → files_aside squares (map (λ s. first_file (label_at labels s)) squares) ≡ sum_by (λ s. files_left c (at board s) (label_at labels s) s) squares
aside-is o c board labels [] stands = refl
aside-is o c board labels (s ∷ squares) stands =
    let h = stands s (inl refl) in
    let first : distance (file s) (first_file (label_at labels s)) ≡ files_left c (at board s) (label_at labels s) s =
    ap (λ (l : Option ℕ). distance (file s) (first_file l)) h.label ∙ sym (left-pawn c (at board s) (label_at labels s) s h.home h.pawn h.label) in
    let rest = aside-is o c board labels squares (λ t there. stands t (inr there)) in
    omega (arith, first, rest, sum_by-cons (λ t. files_left c (at board t) (label_at labels t) t) s squares)

-- a label for each man
pub label-of : (place : Option Man) (label : Option ℕ) (man : Man) → place ≡ Some man → is_none label ≡ is_empty place → (l : ℕ) × (label ≡ Some l)
label-of place None man there same = absurd (both_ways false refl (sym (ap is_empty there) ∙ sym same))
label-of place (Some l) man there same = (l, refl)

stands-after : (o : List Bool) (g : List Move) (c : Colour) → IsGame o g → (s : ℕ) → Has (pawn_squares c (board_after o g)) s → Stands o c (board_after o g) (labels_after o g) s
unfolding pawn_squares
stands-after o g c game s h =
    let board : Places = board_after o g in
    let pawn = (has-filter (λ t. is_the c Pawn (at board t)) (range_with_len 0 64) s h).0 in
    let man = man-of (is_the c Pawn) (at board s) refl pawn in
    let label = label-of (at board s) (label_at (labels_after o g) s) man.0 man.1 (labels-each_man o g game s) in
    let from = pawns-from o g c game s label.0 man.0 label.1 man.1 (sym (ap (is_the c Pawn) man.1) ∙ pawn) in
    record { home = label.0; pawn = pawn; label = label.1; at_home = from.0; rank_is = from.1; comes = from.2 }

-- the files on which the pawns began
pub first_files : List Bool → List Move → Colour → List ℕ
first_files o g c = map (λ s. first_file (label_at (labels_after o g) s)) (pawn_squares c (board_after o g))

same-file : (o : List Bool) (g : List Move) (c : Colour) → IsGame o g → (s t : ℕ) → Has (pawn_squares c (board_after o g)) s → Has (pawn_squares c (board_after o g)) t → first_file (label_at (labels_after o g) s) ≡ first_file (label_at (labels_after o g) t) → s ≡ t
same-file o g c game s t a b same =
    let x = stands-after o g c game s a in
    let y = stands-after o g c game t b in
    files-apart o g c game s t x.home y.home x.pawn y.pawn x.label y.label (sym (ap first_file x.label) ∙ same ∙ ap first_file y.label)

small-file : (l : Option ℕ) → first_file l < 8
small-file None = omega arith
small-file (Some l) = omega arith

all-small : (labels : Labels) (squares : List ℕ) (k d : ℕ) → k < length (map (λ s. first_file (label_at labels s)) squares) → get_or (map (λ s. first_file (label_at labels s)) squares) k d < 8
all-small labels [] k d inside = absurd (omega arith)
all-small labels (s ∷ squares) zero d inside = small-file (label_at labels s)
all-small labels (s ∷ squares) (suc k) d inside = all-small labels squares k d (omega arith)

injection : (o : List Bool) (g : List Move) (c : Colour) → IsGame o g → IsInjection 8 (length (pawn_squares c (board_after o g))) (first_files o g c)
unfolding first_files pawn_squares
injection o g c game =
    let squares : List ℕ = pawn_squares c (board_after o g) in
    let differ = differ-map (λ s. first_file (label_at (labels_after o g) s)) squares (same-file o g c game) (differ-filter (λ s. is_the c Pawn (at (board_after o g) s)) (range_with_len 0 64) (differ-range 0 64)) in
    record {
      size = length-map squares (λ s. first_file (label_at (labels_after o g) s));
      within = all-small (labels_after o g) squares;
      apart = λ i k low high same. differ-apart (first_files o g c) differ i k 0 low high same;
    }

all-come : (o : List Bool) (c : Colour) (board : Places) (labels : Labels) (squares : List ℕ) → ((s : ℕ) → Has squares s → Stands o c board labels s) → HaveCome o c squares (map (λ s. first_file (label_at labels s)) squares)
all-come o c board labels [] stands i low = absurd (omega arith)
all-come o c board labels (s ∷ squares) stands zero low =
    let h = stands s (inl refl) in
    let inside : is_in o (pawn_home c (file h.home)) ≡ false = ap (is_in o) (home-is c h.home h.rank_is) ∙ not-left-out o (is_the c Pawn) h.home refl h.at_home in
    subst (λ (l : Option ℕ). (can_come c s (first_file l) ≡ true) × (is_in o (pawn_home c (first_file l)) ≡ false)) (sym h.label) (h.comes, inside)
all-come o c board labels (s ∷ squares) stands (suc i) low = all-come o c board labels squares (λ t there. stands t (inr there)) i (omega arith)

come-from : (o : List Bool) (g : List Move) (c : Colour) → IsGame o g → HaveCome o c (pawn_squares c (board_after o g)) (first_files o g c)
unfolding first_files
come-from o g c game = all-come o c (board_after o g) (labels_after o g) (pawn_squares c (board_after o g)) (stands-after o g c game)

cost-most : (o : List Bool) (g : List Move) (c : Colour) → IsGame o g → assignment_cost (pawn_costs o c (board_after o g)) (first_files o g c) ≤ length (captured_by_pawns o g c)
unfolding first_files all_files_left pawn_squares
cost-most o g c game =
    let cost = costs_aside o c (board_after o g) (first_files o g c) (injection o g c game) (come-from o g c game) in
    let is = aside-is o c (board_after o g) (labels_after o g) (pawn_squares c (board_after o g)) (stands-after o g c game) in
    let part = sum-filter (λ s. files_left c (at (board_after o g) s) (label_at (labels_after o g) s) s) (λ s. is_the c Pawn (at (board_after o g) s)) (range_with_len 0 64) in
    let all = left-after o c g game in
    omega (arith, cost, is, part, all)

pub pairing : (o : List Bool) (g : List Move) (c : Colour) → IsGame o g → (files : List ℕ) × IsInjection 8 (length (pawn_squares c (board_after o g))) files × HaveCome o c (pawn_squares c (board_after o g)) files × (assignment_cost (pawn_costs o c (board_after o g)) files ≤ length (captured_by_pawns o g c))
pairing o g c game = (first_files o g c, injection o g c game, come-from o g c game, cost-most o g c game)

pub pairing-missing : (o : List Bool) (g : List Move) (c : Colour) (dead : ℕ → Bool) → IsGame o g → AreGoneOtherwise (array_of o) (opponent c) dead (labels_after o g) (captured_by_pawns o g c) → (files : List ℕ) × IsInjection 8 (length (pawn_squares c (board_after o g))) files × HaveCome o c (pawn_squares c (board_after o g)) files × (assignment_cost (pawn_costs o c (board_after o g)) files + men_of (opponent c) is_any (board_after o g) + men_of (opponent c) dead (array_of o) ≤ men_of (opponent c) is_any (array_of o))
pairing-missing o g c dead game otherwise =
    let cost = cost-most o g c game in
    let missing = men-missing o g c dead game otherwise in
    (first_files o g c, injection o g c game, come-from o g c game, omega (arith, cost, missing))

-- no game has fewer captures by pawns than the least cost
pub least-most : (o : List Bool) (g : List Move) (c : Colour) → IsGame o g → least_cost 8 (pawn_costs o c (board_after o g)) ≤ length (captured_by_pawns o g c)
least-most o g c game =
    let injects = subst (λ (n : ℕ). IsInjection 8 n (first_files o g c)) (sym (rows o c (board_after o g))) (injection o g c game) in
    let least = least_cost-le 8 (pawn_costs o c (board_after o g)) (first_files o g c) injects in
    let cost = cost-most o g c game in
    omega (arith, least, cost)

-- by weak duality, nor than the sum of potentials that bound the costs
pub bound-captures : (o : List Bool) (g : List Move) (c : Colour) (u v : List ℤ) → IsGame o g → IsBounded 8 (pawn_costs o c (board_after o g)) u v → (total u +ℤ total v) ≤ℤ pos (length (captured_by_pawns o g c))
bound-captures o g c u v game bounded =
    let dual = no_less o c (board_after o g) u v (first_files o g c) bounded (injection o g c game) in
    let cost = cost-most o g c game in
    omega (arith, ints, cost, dual)

pub bound-missing : (o : List Bool) (g : List Move) (c : Colour) (dead : ℕ → Bool) (u v : List ℤ) → IsGame o g → IsBounded 8 (pawn_costs o c (board_after o g)) u v → AreGoneOtherwise (array_of o) (opponent c) dead (labels_after o g) (captured_by_pawns o g c) → ((total u +ℤ total v) +ℤ pos (men_of (opponent c) is_any (board_after o g) + men_of (opponent c) dead (array_of o))) ≤ℤ pos (men_of (opponent c) is_any (array_of o))
bound-missing o g c dead u v game bounded otherwise =
    let captures = bound-captures o g c u v game bounded in
    let missing = men-missing o g c dead game otherwise in
    omega (arith, ints, captures, missing)

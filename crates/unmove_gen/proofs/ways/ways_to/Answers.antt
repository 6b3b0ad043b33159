use Rattle.std.proofs.Common.{◌≡◌, ◌==◌, ◌||◌, ℕ, ◌<◌, Bool, List, get_or, sym, ap, ◌∙◌, arith}
use Rattle.std.specs.Int.{bit_at}
use Rattle.board_base.specs.Board.{is_in}
use Rattle.board_base.specs.SquareNumbers.{is_in-squares_of}
use Rattle.board_base.specs.declared.men.Colour.{Colour}
use Rattle.board_base.specs.declared.men.Kind.{Kind}
use Rattle.board_base.specs.declared.men.Kind.TheVariants.{Pawn, Rook}
use Rattle.unmove_gen.specs.Ways.{may_go_alone}
use Rattle.unmove_gen.specs.declared.way_tables.TheConstants.{WHITE_PAWNS, BLACK_PAWNS, KNIGHTS, KINGS, BISHOPS, ROOKS}
use Rattle.unmove_gen.proofs.Bits.{either-bit}
use Rattle.unmove_gen.proofs.TheTables.{bishops-at, black_pawns-at, kings-at, knights-at, rooks-at, white_pawns-at}
use Rattle.unmove_gen.proofs.ways.ways_to.Goals as goal
use Rattle.unmove_gen.proofs.ways.ways_to.Goals.{in-Pawn+in-White, in-Pawn+in-Black, in-Knight, in-King, in-Bishop, in-Rook, in-Queen}

at-place : (table : List ℕ) (s place t : ℕ) → place ≡ t → (bit_at (get_or table place 0) s == 1) ≡ (bit_at (get_or table t 0) s == 1)
at-place table s place t e = ap (λ (n : ℕ). bit_at (get_or table n 0) s == 1) e

pub returns : goal.returns
unfolding may_go_alone
returns c = λ s small.
    let d : Colour = c.args.colour in
    let to : ℕ = c.args.to in
    let place : ℕ = c.index-place.result in
    let same : place ≡ to = c.index-place.ensures.number in
    let low = c.index-place.ensures.on_board in
    let inside : to < 64 = omega arith in
    let Is : ℕ → Bool = λ n. bit_at n s == 1 in
    let kind : (k : Kind) → c.args.kind ≡ k → may_go_alone d k s to ≡ may_go_alone d c.args.kind s to = λ k e. ap (λ (j : Kind). may_go_alone d j s to) (sym e) in
    ap (λ (l : List Bool). is_in l s) c.from_bits.ensures.squares ∙ is_in-squares_of c.match-kind.bits s small ∙ elim c.match-kind.branch [
      | in-Pawn+in-White w ↦ ap Is w.bits-is ∙ at-place WHITE_PAWNS s place to same ∙ white_pawns-at s to small inside ∙ ap (λ (e : Colour). may_go_alone e Pawn s to) (sym w.in-White.is) ∙ kind _ w.in-Pawn.is
      | in-Pawn+in-Black w ↦ ap Is w.bits-is ∙ at-place BLACK_PAWNS s place to same ∙ black_pawns-at s to small inside ∙ ap (λ (e : Colour). may_go_alone e Pawn s to) (sym w.in-Black.is) ∙ kind _ w.in-Pawn.is
      | in-Knight w ↦ ap Is w.bits-is ∙ at-place KNIGHTS s place to same ∙ knights-at d s to small inside ∙ kind _ w.in-Knight.is
      | in-King w ↦ ap Is w.bits-is ∙ at-place KINGS s place to same ∙ kings-at d s to small inside ∙ kind _ w.in-King.is
      | in-Bishop w ↦ ap Is w.bits-is ∙ at-place BISHOPS s place to same ∙ bishops-at d s to small inside ∙ kind _ w.in-Bishop.is
      | in-Rook w ↦ ap Is w.bits-is ∙ at-place ROOKS s place to same ∙ rooks-at d s to small inside ∙ kind _ w.in-Rook.is
      | in-Queen w ↦
          ap Is w.bits-is ∙ either-bit (get_or ROOKS place 0) (get_or BISHOPS place 0) s
          ∙ ap (λ (b : Bool). b || Is (get_or BISHOPS place 0)) (at-place ROOKS s place to same ∙ rooks-at d s to small inside)
          ∙ ap (λ (b : Bool). may_go_alone d Rook s to || b) (at-place BISHOPS s place to same ∙ bishops-at d s to small inside)
          ∙ kind _ w.in-Queen.is
    ]

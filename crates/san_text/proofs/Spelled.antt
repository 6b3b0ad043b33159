-- The spelling of a legal move is read as what is said of it.
use Rattle.std.proofs.Common.{◌≡◌, ◌<◌, ◌==◌, ◌++◌, ℕ, Bool, true, false, cond, ◌&&◌, not, List, length, refl, sym, subst, arith}
use Rattle.std.proofs.lemmas.Bool.{and_parts, both_ways}
use Rattle.std.specs.Prelude.{Option, Some, None}
use Rattle.board_base.specs.Board.{at, is_a, file, rank}
use Rattle.board_base.specs.Play.{castling}
use Rattle.board_base.specs.Legal.{promotion_fits, is_officer, last_rank}
use Rattle.board_base.specs.declared.men.Kind.{Kind}
use Rattle.board_base.specs.declared.men.Kind.TheVariants.{Pawn, Knight, Bishop, Rook, Queen, King}
use Rattle.board_base.specs.declared.moves.Move.{Move}
use Rattle.board_base.specs.declared.castles.Castle.{Castle}
use Rattle.board_base.specs.declared.castles.Castle.TheVariants.{WhiteShort, WhiteLong, BlackShort, BlackLong}
use Rattle.board_base.proofs.KindsOfMen.{another_kind, no-promo}
use Rattle.play_rules.specs.States.{Position, legal_at}
use Rattle.play_rules.proofs.Legality.{legality}
use Rattle.san_text.specs.Grammar.{is_end, san_of}
use Rattle.san_text.specs.Fits.{IsOnly, fits_said, fits_text, captures}
use Rattle.san_text.specs.Forms.{CanBecome}
use Rattle.san_text.specs.Small.{IsSmall}
use Rattle.san_text.specs.Spelling.{said_text, mark_text, mark_of, next, named, named_as, named_kind, kind_at, origin_of, spelling}
use Rattle.san_text.specs.declared.grammar.San.{San}
use Rattle.san_text.specs.declared.grammar.San.TheVariants.{Goes}
use Rattle.san_text.specs.declared.marks.Mark.{Mark}
use Rattle.san_text.specs.declared.marks.Mark.TheVariants.{Quiet, Check, Mate}
use Rattle.san_text.proofs.Backs.{IsPiece, said_piece, said_pawn, said_short, said_long}
use Rattle.san_text.proofs.Candidates.{from_inside}
use Rattle.san_text.proofs.Fitted.{kind_there, named_only}
use Rattle.san_text.proofs.Written.{origin_small}

mark_ends : (k : Mark) → is_end (mark_text k) ≡ true
mark_ends Quiet = refl
mark_ends Check = refl
mark_ends Mate = refl

-- what a pawn becomes in a legal move
becomes : (promo : Option Kind) (reaches : Bool) → elim promo as (λ _. Bool) [ None ↦ not reaches | Some k ↦ reaches && is_officer k ] ≡ true → CanBecome promo
becomes None reaches h = tt
becomes (Some Knight) reaches h = tt
becomes (Some Bishop) reaches h = tt
becomes (Some Rook) reaches h = tt
becomes (Some Queen) reaches h = tt
becomes (Some Pawn) reaches h = absurd (both_ways _ refl (and_parts _ _ h).1)
becomes (Some King) reaches h = absurd (both_ways _ refl (and_parts _ _ h).1)

legal_becomes : (p : Position) (m : Move) → legal_at p m ≡ true → CanBecome m.promo
unfolding promotion_fits
legal_becomes p m legal = becomes m.promo (is_a Pawn (at p.board m.from) && (rank m.to == last_rank p.turn)) (legality p.board p.turn _ _ m legal).promotion

-- a piece isn't promoted
piece_stays : (p : Position) (m : Move) → legal_at p m ≡ true → is_a Pawn (at p.board m.from) ≡ false → m.promo ≡ None
unfolding promotion_fits
piece_stays p m legal other = no-promo m.promo (is_a Pawn (at p.board m.from)) (rank m.to == last_rank p.turn) other (legality p.board p.turn _ _ m legal).promotion

-- what is read of the text of what is said is that
abbrev ReadsBack : San → List ℕ → Type 0
ReadsBack said mark = san_of (said_text said ++ mark) ≡ Some said

pawn_reads : (b : Bool) (s t : ℕ) (promo : Option Kind) (mark : List ℕ) → s < 64 → t < 64 → CanBecome promo → is_end mark ≡ true → ReadsBack (Goes (record { kind = Pawn; file = cond b (Some (file s)) None; rank = None; takes = b; to = t; promo = promo })) mark
pawn_reads true s t promo mark low low_target can ends = let small : file s < 8 = omega arith in said_pawn (Some (file s)) t promo mark small low_target can ends
pawn_reads false s t promo mark low low_target can ends = said_pawn None t promo mark tt low_target can ends

piece_reads : (k : Kind) (f r : Option ℕ) (x : Bool) (t : ℕ) (promo : Option Kind) (mark : List ℕ) → promo ≡ None → IsPiece k → IsSmall f → IsSmall r → t < 64 → is_end mark ≡ true → ReadsBack (Goes (record { kind = k; file = f; rank = r; takes = x; to = t; promo = promo })) mark
piece_reads k f r x t promo mark none piece small_f small_r low ends =
    subst (λ (o : Option Kind). ReadsBack (Goes (record { kind = k; file = f; rank = r; takes = x; to = t; promo = o })) mark) (sym none) (said_piece k f r x t mark piece small_f small_r low ends)

piece_named : (p : Position) (k : Kind) (m : Move) (mark : List ℕ) → length p.board ≡ 64 → legal_at p m ≡ true → is_a k (at p.board m.from) ≡ true → is_a Pawn (at p.board m.from) ≡ false → IsPiece k → is_end mark ≡ true → ReadsBack (named_kind p k m) mark
piece_named p k m mark size legal man other piece ends =
    let small = origin_small p k m (from_inside p size m legal) in
    piece_reads k (origin_of p k m).0 (origin_of p k m).1 (captures p.board m) m.to m.promo mark (piece_stays p m legal other) piece small.0 small.1 (legality p.board p.turn _ _ m legal).on_board ends

kind_reads : (p : Position) (k : Kind) (m : Move) (mark : List ℕ) → length p.board ≡ 64 → legal_at p m ≡ true → is_a k (at p.board m.from) ≡ true → is_end mark ≡ true → ReadsBack (named_kind p k m) mark
kind_reads p Pawn m mark size legal man ends =
    pawn_reads (captures p.board m) m.from m.to m.promo mark (from_inside p size m legal) (legality p.board p.turn _ _ m legal).on_board (legal_becomes p m legal) ends
kind_reads p Knight m mark size legal man ends = piece_named p Knight m mark size legal man (another_kind Pawn Knight (at p.board m.from) man) tt ends
kind_reads p Bishop m mark size legal man ends = piece_named p Bishop m mark size legal man (another_kind Pawn Bishop (at p.board m.from) man) tt ends
kind_reads p Rook m mark size legal man ends = piece_named p Rook m mark size legal man (another_kind Pawn Rook (at p.board m.from) man) tt ends
kind_reads p Queen m mark size legal man ends = piece_named p Queen m mark size legal man (another_kind Pawn Queen (at p.board m.from) man) tt ends
kind_reads p King m mark size legal man ends = piece_named p King m mark size legal man (another_kind Pawn King (at p.board m.from) man) tt ends

named_reads : (p : Position) (m : Move) (o : Option Castle) (mark : List ℕ) → length p.board ≡ 64 → legal_at p m ≡ true → is_end mark ≡ true → ReadsBack (named_as o p m) mark
named_reads p m (Some WhiteShort) mark size legal ends = said_short mark ends
named_reads p m (Some WhiteLong) mark size legal ends = said_long mark ends
named_reads p m (Some BlackShort) mark size legal ends = said_short mark ends
named_reads p m (Some BlackLong) mark size legal ends = said_long mark ends
named_reads p m None mark size legal ends =
    kind_reads p (kind_at p.board m.from) m mark size legal (kind_there p.turn (at p.board m.from) (legality p.board p.turn _ _ m legal).mover) ends

pub spelling_reads : (p : Position) (m : Move) → length p.board ≡ 64 → legal_at p m ≡ true → san_of (spelling p m) ≡ Some (named p m)
unfolding spelling named
spelling_reads p m size legal = named_reads p m (castling p.board m) (mark_text (mark_of (next p m))) size legal (mark_ends (mark_of (next p m)))

-- the spelling fits its move alone
pub spelling_only : (p : Position) (m : Move) → length p.board ≡ 64 → legal_at p m ≡ true → IsOnly (fits_text (spelling p m) p) m
spelling_only p m size legal =
    subst (λ (o : Option San). IsOnly (fits_said o p) m) (sym (spelling_reads p m size legal)) (named_only p m size legal)

-- What the lines that a ledger knows say holds of every game.
use Rattle.std.proofs.Common.{ℕ, ◌<◌, Bool, List, refl, slice_index}
use Rattle.std.specs.Prelude.{IsTrue, Option, None, Some}
use Rattle.std.proofs.lemmas.Bool.{lt-ltb}
use Rattle.board_base.specs.declared.men.Colour.{Colour}
use Rattle.board_base.specs.declared.moves.Move.{Move}
use Rattle.query_base.specs.Asked.{Asked}
use Rattle.query_base.specs.Reach.{Reaches}
use Rattle.cage_rules.specs.Laws.{Caged}
use Rattle.cage_rules.specs.Reach.{LeadsTo}
use Rattle.cage_rules.proofs.Histories.{reaches-leads}
use Rattle.cage_rules.proofs.WalledGames.{caged-walled}
use Rattle.ledger_facts.specs.declared.suppositions.Squares.TheVariants.{All, Dark, Class}
use Rattle.ledger_search.specs.Ledgers.{IsLedgerOf}
use Rattle.ledger_search.specs.Questions.{only}
use Rattle.ledger_facts.specs.declared.suppositions.Squares.{Squares}
use Rattle.ledger_search.specs.declared.counts.Range.{Range}
use Rattle.ledger_search.specs.declared.ledgers.Ledger.{Ledger}
use Rattle.ledger_lines.specs.Facts.{Says}
use Rattle.ledger_lines.specs.Known.{IsKnown, is_class}
use Rattle.ledger_lines.specs.Lines.{IsLineKnown, IsLineOnBoard, LineSays, OfDark, OfManner, OfRange, OfTaker, OfWithin}
use Rattle.ledger_lines.specs.declared.facts.Fact.TheVariants.{Began, Original as BeganOriginal, Promoted as BeganPawn, Took, TookAtMost, Slanted, Straight, Fell as Taken, FellToPawn, EscapedPawns, Became as WasPromoted, NeverBecame, Stayed, AtLeast, AtMost, Lacks as LacksMen, Among as PawnsAmong}
use Rattle.ledger_lines.specs.declared.lines.Line.{Line}
use Rattle.ledger_lines.specs.declared.lines.Line.TheVariants.{Unmoved, Lacks, Captures, Pawn, Man, Ahead, Original, Promoted, Among, Fell, Became}
use Rattle.ledger_lines.specs.declared.lines.Taker.{Taker}
use Rattle.ledger_lines.specs.declared.lines.Taker.TheVariants.{Anyone, Pawn as ByPawn, Officer}
use Rattle.ledger_lines.specs.declared.lines.Manner.{Manner}
use Rattle.ledger_lines.specs.declared.lines.Manner.TheVariants.{Anyhow, AsPawn, AsPromoted}
use Rattle.ledger_lines.proofs.Holding.{known-holds}

module _ (q : Asked) (l : Ledger) (is : IsLedgerOf q l) (g : List Move) (leads : LeadsTo q.odds g q) where
  of-taker : (h : ℕ) (taker : Taker) → h < 64 → OfTaker (λ f. IsKnown f q l) h taker → OfTaker (λ f. Says f q.odds g) h taker
  of-taker h Anyone low known = tt
  of-taker h ByPawn low known = known-holds (FellToPawn h) q l low is known g leads
  of-taker h Officer low known = known-holds (EscapedPawns h) q l low is known g leads

  of-manner : (h : ℕ) (manner : Manner) → h < 64 → OfManner (λ f. IsKnown f q l) h manner → OfManner (λ f. Says f q.odds g) h manner
  of-manner h Anyhow low known = tt
  of-manner h AsPawn low known = known-holds (NeverBecame h) q l low is known g leads
  of-manner h AsPromoted low known = known-holds (WasPromoted h) q l low is known g leads

  of-within : (h : ℕ) (within : List Bool) → h < 64 → OfWithin (λ f. IsKnown f q l) h within → OfWithin (λ f. Says f q.odds g) h within
  of-within h within low known told = known-holds (Stayed h within) q l low is (known told) g leads

  of-range : (side : Colour) (squares : Squares) (range : Range) → IsTrue (is_class squares) → OfRange (λ f. IsKnown f q l) side squares range → OfRange (λ f. Says f q.odds g) side squares range
  of-range side squares range on known = (known-holds (AtLeast side squares range.least) q l on is known.0 g leads, known-holds (AtMost side squares range.most) q l on is known.1 g leads)

  of-dark : (side : Colour) (dark : Option Range) → OfDark (λ f. IsKnown f q l) side dark → OfDark (λ f. Says f q.odds g) side dark
  of-dark side None known = tt
  of-dark side (Some range) known = of-range side Dark range refl known

  line-holds : (x : Line) → IsLineOnBoard x → IsLineKnown x q l → LineSays x q.odds g
  line-holds (Unmoved set) on known = let caged : Caged q.odds g q set = record { leads = leads; frozen = known } in (caged-walled q.odds g q set caged).labels
  line-holds (Lacks side losses) on known = known-holds (LacksMen side losses) q l tt is known g leads
  line-holds (Captures side x) on known = (of-range side All x.all refl known.0, of-dark side x.dark known.1, λ k low. known-holds (AtLeast side (Class k) (slice_index x.least_on k)) q l (lt-ltb k 16 low) is (known.2 k low) g leads)
  line-holds (Pawn s homes n exact) on known = (known-holds (Began s homes) q l on is known.0 g leads, known-holds (Took s n) q l on is known.1 g leads, λ told. known-holds (TookAtMost s n) q l on is (known.2 told) g leads, known-holds (Slanted s) q l on is known.3 g leads)
  line-holds (Man s h) on known = known-holds (Began s (only h)) q l on is known g leads
  line-holds (Ahead set) on known = λ s low there. known-holds (Straight s) q l low is (known s low there) g leads
  line-holds (Original set) on known = λ s low there. known-holds (BeganOriginal s) q l low is (known s low there) g leads
  line-holds (Promoted s homes) on known = (known-holds (BeganPawn s) q l on is known.0 g leads, known-holds (Began s homes) q l on is known.1 g leads)
  line-holds (Among n set) on known = known-holds (PawnsAmong set n) q l tt is known g leads
  line-holds (Fell h taker manner within) on known = (known-holds (Taken h) q l on is known.0 g leads, of-taker h taker on known.1, of-manner h manner on known.2, of-within h within on known.3)
  line-holds (Became h) on known = known-holds (WasPromoted h) q l on is known g leads

pub known-line-holds : (x : Line) (q : Asked) (l : Ledger) → IsLineOnBoard x → IsLedgerOf q l → IsLineKnown x q l → (g : List Move) → LeadsTo q.odds g q → LineSays x q.odds g
known-line-holds x q l on is known g leads = line-holds q l is g leads x on known

pub known-line-reached : (x : Line) (q : Asked) (l : Ledger) → IsLineOnBoard x → IsLedgerOf q l → IsLineKnown x q l → (g : List Move) → Reaches g q → LineSays x q.odds g
known-line-reached x q l on is known g reaches = known-line-holds x q l on is known g (reaches-leads g q reaches)

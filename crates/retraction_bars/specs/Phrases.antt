-- The phrases of the sentences.
use Rattle.std.specs.Prelude.{ℕ, List, codes}
use Rattle.retraction_bars.specs.declared.phrases.Phrase.{Phrase}
use Rattle.retraction_bars.specs.declared.phrases.Phrase.TheVariants.{OnFirst, OnOwnFirst, Each, ElseEach, ToComeFrom, Or, AnySquare, LastMove, GaveCheck, Occupied, ItGave, TheKing, AndTheRook, NeverMoved, RuledOut, TooMany, ByClock, NotPassed, Illegal, From, Quietly, Capturing, EnPassant, AsPawn, Also, AtOnce, Is, Stop}

-- the words of a phrase
unfoldable pub phrase : Phrase → List ℕ
phrase OnFirst = codes ": on their first squares."
phrase OnOwnFirst = codes ": on its first square."
phrase Each = codes " Each"
phrase ElseEach = codes " Otherwise each"
phrase ToComeFrom = codes " square to come from is occupied"
phrase Or = codes ", or "
phrase AnySquare = codes " from any square"
phrase LastMove = codes "the last move was "
phrase GaveCheck = codes " gave check already"
phrase Occupied = codes "occupied"
phrase ItGave = codes "it attacked the king already"
phrase TheKing = codes "the king of "
phrase AndTheRook = codes " and the rook of "
phrase NeverMoved = codes " never moved"
phrase RuledOut = codes "ruled out"
phrase TooMany = codes " would have had too many pawns and promoted men"
phrase ByClock = codes "the clock forbids it"
phrase NotPassed = codes "no double step came just before"
phrase Illegal = codes "no legal move"
phrase From = codes " from"
phrase Quietly = codes " without a capture from"
phrase Capturing = codes " capturing from"
phrase EnPassant = codes " en passant from"
phrase AsPawn = codes " (pawn)"
phrase Also = codes " and"
phrase AtOnce = codes " both give check, and no single move gives both."
phrase Is = codes ": "
phrase Stop = codes "."

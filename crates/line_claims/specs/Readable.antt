-- Inner: no public clause cites this file.
-- Unmoves that are read as they are written.
use Rattle.std.specs.Prelude.{◌≡◌, Some}
use Rattle.board_base.specs.Texts.{unmove_from, unmove_text}
use Rattle.board_base.specs.declared.unmoves.Unmove.{Unmove}

-- its text is read as it
abbrev pub IsReadable : Unmove → Type 0
IsReadable u = unmove_from (unmove_text u) ≡ Some u

-- Where no right is astray, the king and the rook of each are at home.
use Rattle.std.proofs.Common.{◌≡◌, Bool, true, false, ◌&&◌, ◌||◌, not, refl}
use Rattle.std.specs.Prelude.{IsTrue, Some}
use Rattle.std.specs.List.{find}
use Rattle.board_base.specs.Game.{lacks_home}
use Rattle.board_base.specs.Play.{all_castles}
use Rattle.board_base.specs.Rights.{holds}
use Rattle.board_base.specs.declared.castles.Castle.{Castle}
use Rattle.board_base.specs.declared.castles.Castle.TheVariants.{WhiteShort, WhiteLong, BlackShort, BlackLong}
use Rattle.castle_history.specs.Homes.{are_at_home}
use Rattle.query_base.specs.Asked.{Asked}
use Rattle.static_rules.specs.Supports.{HasRightsHomes}
use Rattle.proof_sentences.specs.Firsts.{is_astray}
use Rattle.first_pairing.proofs.Finding.{found-stands}

kept : (held lacks home : Bool) → (held && (lacks || not home)) ≡ false → held ≡ true → (lacks ≡ false) × (home ≡ true)
kept true false true e h = (refl, refl)
kept true false false e h = absurd cc
kept true true home e h = absurd cc
kept false lacks home e h = absurd cc

each : (q : Asked) → is_astray q WhiteShort ≡ false → is_astray q WhiteLong ≡ false → is_astray q BlackShort ≡ false → is_astray q BlackLong ≡ false → (x : Castle) → is_astray q x ≡ false
each q a b c d WhiteShort = a
each q a b c d WhiteLong = b
each q a b c d BlackShort = c
each q a b c d BlackLong = d

pub none-astray : (q : Asked) → is_astray q WhiteShort ≡ false → is_astray q WhiteLong ≡ false → is_astray q BlackShort ≡ false → is_astray q BlackLong ≡ false → HasRightsHomes q
none-astray q a b c d = record {
  begun = λ x held. (kept (holds q.held x) (lacks_home q.odds x) (are_at_home q.board x) (each q a b c d x) held).0;
  at_home = λ x held. (kept (holds q.held x) (lacks_home q.odds x) (are_at_home q.board x) (each q a b c d x) held).1;
}

-- what is found is so
pub found-astray : (q : Asked) (x : Castle) → find (is_astray q) all_castles ≡ Some x → IsTrue (is_astray q x)
found-astray q x e = (found-stands (is_astray q) all_castles x e).1

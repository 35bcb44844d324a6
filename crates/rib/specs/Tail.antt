-- A RIB record's body, with a family and SAFI or without.
use Rattle.std.specs.Prelude.{Option, Some, None}
use Rattle.record_spec.specs.declared.Routes.{Routes}
use Rattle.record_spec.specs.declared.Scope.{Scope}
use Rattle.record_spec.specs.declared.Body.{Body}
use Rattle.record_spec.specs.declared.Body.TheVariants.{Rib, RibGeneric}

abbrev pub tail : Option Scope → Routes → Body
tail (Some s) r = RibGeneric s r
tail None r = Rib r

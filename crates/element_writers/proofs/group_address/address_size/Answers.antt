-- `element_writers::group_address::address_size` meets its contract. Assumes nothing.
use native.Mathlib.Omega.{arith}
use Rattle.element_writers.specs.GroupsAsked.{number-size}
use Rattle.element_writers.proofs.group_address.address_size.Goals as goal

pub returns : goal.returns
returns c =
    let a = c.args.a in (
      rw (
        c.width_if.ensures.0,
        c.is_some.ensures,
        c.width_if-2.ensures.0,
        c.is_some-2.ensures,
        c.width_if-3.ensures.0,
        c.is_some-3.ensures,
        number-size 24 a.gssi,
        number-size 24 a.address_extension,
        number-size 24 a.vgssi,
      ),
      omega arith,
    )

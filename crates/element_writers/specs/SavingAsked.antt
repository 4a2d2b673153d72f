-- What questions 8, 12 and 13 find of energy saving information that may be absent.
use Rattle.std.specs.Prelude.{Option}
use Rattle.elements.specs.Numbers.{option_all}
use Rattle.elements.specs.EnergySaving.{saving_fits, alive_has_none, others_have_both}
use Rattle.elements.specs.declared.energy_saving_information.EnergySavingInformation.{EnergySavingInformation}
use Rattle.element_writers.specs.declared.energy_saving_information.SavingAsked.{SavingAsked}

-- all three; what is absent passes them
abbrev pub saving_asked : Option EnergySavingInformation → SavingAsked
saving_asked o = record { fits = option_all saving_fits o; alive = option_all alive_has_none o; saving = option_all others_have_both o }

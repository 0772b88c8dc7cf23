-- Why a text has no values (own).
use Rattle.character_texts.specs.declared.ReadFault.{ReadFault}
use Rattle.character_texts.specs.declared.ReadFault.TheVariants as characters
use Rattle.soft_trellis.specs.declared.texts.CostFault.{CostFault}
use Rattle.soft_trellis.specs.declared.texts.CostFault.TheVariants as costs

-- the fault of values whose characters were not read
abbrev pub fault_of : ReadFault → CostFault
fault_of (characters.BadCharacter at) = costs.BadCost at
fault_of (characters.NoMemory e) = costs.NoMemory e

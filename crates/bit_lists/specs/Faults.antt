-- Why a text has no bits (own).
use Rattle.bit_lists.specs.declared.TextFault.{TextFault}
use Rattle.bit_lists.specs.declared.TextFault.TheVariants as bits
use Rattle.character_texts.specs.declared.ReadFault.{ReadFault}
use Rattle.character_texts.specs.declared.ReadFault.TheVariants as characters

-- the fault of bits whose characters were not read
abbrev pub fault_of : ReadFault → TextFault
fault_of (characters.BadCharacter at) = bits.BadBit at
fault_of (characters.NoMemory e) = bits.NoMemory e

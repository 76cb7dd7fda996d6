-- How a kind of damage is called.
use Rattle.std.specs.Prelude.{ℕ, List, codes}
use Rattle.shard_disk.specs.declared.damage.Why.{Why}
use Rattle.shard_disk.specs.declared.damage.Why.TheVariants.{NoManifest, Missing, Head, Foot, Keys, Block, Sum, Body, Number}

-- the name of the variant alone, also of one that carries values
abbrev pub name_of : Why → List ℕ
name_of NoManifest = codes "NoManifest"
name_of Missing = codes "Missing"
name_of Head = codes "Head"
name_of Foot = codes "Foot"
name_of Keys = codes "Keys"
name_of Block = codes "Block"
name_of (Sum stored computed) = codes "Sum"
name_of Body = codes "Body"
name_of Number = codes "Number"

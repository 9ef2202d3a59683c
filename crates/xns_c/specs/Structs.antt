-- What the structs that C sees stand for.
use Rattle.std.specs.Prelude.{ℕ, List}
use Rattle.xns_idp.specs.declared.address.Address.{Address}
use Rattle.xns_spp.specs.declared.item.Item.{Item}
use Rattle.xns_c.specs.Given.{is_yes}
use Rattle.xns_c.specs.declared.address.XnsAddress.{XnsAddress}

abbrev pub address_of_struct : XnsAddress → Address
address_of_struct a = record { network = a.network; host = a.host; socket = a.socket }

-- the item of these parts, as C gives them
abbrev pub item_given : ℕ → ℕ → ℕ → List ℕ → Item
item_given stream attention last body = record { stream = stream; attention = is_yes attention; last = is_yes last; body = body }

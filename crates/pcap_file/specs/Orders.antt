-- Numbers in octets of either order.
use Rattle.std.specs.Prelude.{ℕ, List, take, drop}
use Rattle.std.specs.Int.{Width, w16, w32, from_be_bytes, from_le_bytes}
use Rattle.pcap_file.specs.declared.order.ByteOrder.{ByteOrder}
use Rattle.pcap_file.specs.declared.order.ByteOrder.TheVariants.{Big, Little}

-- the number that octets are, of this order and width
abbrev pub number_by : ByteOrder → Width → List ℕ → ℕ
number_by Big w octets = from_be_bytes w octets
number_by Little w octets = from_le_bytes w octets

-- the number in the two octets behind the first i
abbrev pub short_at : ByteOrder → ℕ → List ℕ → ℕ
short_at order i octets = number_by order w16 (take 2 (drop i octets))

-- the number in the four octets behind the first i
abbrev pub long_at : ByteOrder → ℕ → List ℕ → ℕ
long_at order i octets = number_by order w32 (take 4 (drop i octets))

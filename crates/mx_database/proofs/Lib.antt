pub mod PowerProofs

pub mod InstallLemmas

-- One file of laws for each file of definitions, one for equations modulo a number and one for the machine's signed numbers.
pub mod Choose
pub mod Modulo
pub mod Signed
pub mod Machine
pub mod Little

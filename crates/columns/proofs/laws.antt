-- One file of laws for each subject.
pub mod InStep
pub mod Inside
pub mod KeysVals
pub mod Zip
pub mod Short
pub mod Count
